-- view: what a field gives by its own value.
use Rattle.std.specs.Prelude.{ℕ, ℤ, pos, List, Option, None, Some, Result, Ok}
use Rattle.sl_decode_meaning.specs.Lookups.{number_at}
use Rattle.sl_decode_meaning.specs.declared.faults.Fault.{Fault}
use Rattle.sl_spec.specs.FieldValues.{value_of}
use Rattle.sl_spec.specs.Tables.{Field}
use Rattle.sl_spec.specs.declared.tables.Tables.{Tables}

-- whatever is attached to it
abbrev pub own_if : Tables → Option Field → List ℕ → ℕ → ℕ → Result ℤ Fault
own_if t None bytes at context = Ok (pos 0)
own_if t (Some f) bytes at context = Ok (value_of f (number_at t f bytes at context))
