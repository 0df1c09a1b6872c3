-- step: what is told by a stop.
use Rattle.std.specs.Prelude.{Option, Some}
use Rattle.sl_shape.specs.declared.faults.Fault.{Fault}
use Rattle.sl_shape.specs.declared.stop.Stop.{Stop}
use Rattle.sl_shape.specs.declared.stop.Stop.TheVariants as stop

-- The fault is told; want of memory is free.
abbrev pub Stops : (Option Fault → Type 0) → Stop → Type 0
Stops P (stop.Fault f) = P (Some f)
Stops P stop.NoMemory = Unit {0}
