use Rattle.sl_decode_leaves.specs.Blocks.{AreLeavesOfHead}
use Rattle.sl_decode_leaves.proofs.MadeLemmas.{AreMadeOf}
use Rattle.sl_decode_plan.proofs.OpenLemmas.{AreRightAmong}
use Rattle.sl_decode_plan.proofs.PlanLemmas.{AreFirst}
use Rattle.sl_decode_plan.proofs.plans.make_plans.Given as goal

abbrev pub invariant-constructors : goal.invariant-constructors
invariant-constructors l = AreFirst l.t l.t.constructors l.constructors l.index l.all.items × AreMadeOf (AreLeavesOfHead l.t) l.constructors l.made
    × AreRightAmong l.t l.constructors l.around
