use Rattle.std.proofs.Common.{ap, arith, refl, ◌∙◌}
use Rattle.sl_decode_leaves.specs.Extents.{leaves_at}
use Rattle.sl_decode_leaves.specs.declared.pattern_leaves.PatternLeaves.{PatternLeaves}
use Rattle.sl_decode_plan.proofs.OpenLemmas.{more_common, none_common}
use Rattle.sl_decode_plan.proofs.open_blocks.OpenBlocks.common.Goals as goal

pub first-init : goal.first-init
first-init c = none_common c.args.patterns.now c.as_slice-blocks.result.now c.args.heads.now

pub first-preserved : goal.first-preserved
first-preserved c =
    let same = c.if-not-is_same_block.ensures in
    more_common c.args.patterns.now c.as_slice-blocks.result.now c.args.heads.now c.first.index c.index-patterns-index.result c.index-blocks-index.result c.index-heads-index.result
    (omega arith) (omega arith) (omega arith) c.index-patterns-index.is c.index-blocks-index.is c.index-heads-index.is (same.number refl)
    (λ lengths. same.alike refl lengths ∙ ap (λ (y : PatternLeaves). leaves_at lengths y.leaves.items) c.deref.ensures) c.first.invariant
