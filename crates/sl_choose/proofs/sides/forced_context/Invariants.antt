use Rattle.sl_choose.specs.Sides.{HasNoForcedContext}
use Rattle.sl_choose.proofs.sides.forced_context.Given as goal

abbrev pub invariant-loop-place : goal.invariant-loop-place
invariant-loop-place l = HasNoForcedContext l.entries l.place
