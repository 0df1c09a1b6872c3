use Rattle.std.proofs.Common.{◌≡◌, take}
use Rattle.std.specs.List.{flat_map}
use Rattle.sl_session.specs.Numbers.{numbers_of_op}
use Rattle.sl_session.proofs.numbers.numbers_of.Given as goal

abbrev pub invariant-ops : goal.invariant-ops
invariant-ops l = l.numbers.items ≡ flat_map numbers_of_op (take l.op-index l.ops)
