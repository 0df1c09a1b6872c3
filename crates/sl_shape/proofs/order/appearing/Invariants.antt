use Rattle.std.proofs.Common.{◌≡◌, ◌++◌, drop}
use Rattle.sl_shape.specs.Tables.{appearing, appearing_from}
use Rattle.sl_shape.proofs.order.appearing.Given as goal

abbrev pub invariant-ctors : goal.invariant-ctors
invariant-ctors l = l.all.items ++ appearing_from l.t l.index (drop l.index l.ctors) ≡ appearing l.t
