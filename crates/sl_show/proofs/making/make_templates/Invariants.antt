use Rattle.sl_decode_leaves.proofs.MadeLemmas.{AreMadeOf}
use Rattle.sl_decode_leaves.specs.Blocks.{AreLeavesOfHead}
use Rattle.sl_spec.specs.Unfolded.{all_placed}
use Rattle.sl_show.proofs.MakingLemmas.{AreFirst}
use Rattle.sl_show.proofs.making.make_templates.Given as goal

abbrev pub invariant-constructors : goal.invariant-constructors
invariant-constructors l = AreFirst l.t (all_placed l.constructors) l.all.items l.index × AreMadeOf (AreLeavesOfHead l.t) l.constructors l.made
