use Rattle.sl_choose.specs.Sides.{HasNoForcedByte}
use Rattle.sl_choose.proofs.sides.forced_byte.Given as goal

abbrev pub invariant-loop-place : goal.invariant-loop-place
invariant-loop-place l = HasNoForcedByte l.entries l.place
