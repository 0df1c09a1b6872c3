use Rattle.sl_pcode.specs.WellFormed.{StayInsideTo}
use Rattle.sl_pcode.proofs.list.stay_inside.Given as goal

abbrev pub invariant-loop-at : goal.invariant-loop-at
invariant-loop-at l = StayInsideTo l.at l.ops
