use Rattle.std.proofs.Common.{List, subst, sym}
use Rattle.sl_decode_plan.specs.Open.{AreRight}
use Rattle.sl_decode_plan.specs.declared.open_blocks.OpenBlock.{OpenBlock}
use Rattle.sl_decode_plan.proofs.open_blocks.OpenBlocks.new.Goals as goal

pub returns : goal.returns
returns c = λ t head_at. subst (λ (xs : List OpenBlock). AreRight t head_at xs) (sym c.new.ensures.items) tt
