use Rattle.std.proofs.Common.{List, subst, sym}
use Rattle.sl_spec_actions.specs.Blocks.{AreRight}
use Rattle.sl_spec_actions.specs.Levels.{Level}
use Rattle.sl_spec_actions.proofs.BlockLemmas.{right_none}
use Rattle.sl_spec_actions.proofs.blocks.JudgedBlocks.new.Goals as goal

pub returns : goal.returns
returns c = λ all t head_at. subst (λ (ls : List Level). AreRight all t head_at ls) (sym c.new.ensures.items) (right_none all t head_at)
