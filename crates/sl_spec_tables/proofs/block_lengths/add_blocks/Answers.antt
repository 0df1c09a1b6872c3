use Rattle.std.proofs.Common.{◌≡◌}
use Rattle.sl_ast.specs.Views.{head_of}
use Rattle.sl_spec.specs.declared.unfolded.Around.{Around}
use Rattle.sl_spec_tables.proofs.BlockLemmas.{all_at}
use Rattle.sl_spec_tables.proofs.block_lengths.add_blocks.Goals as goal

pub all-preserved : goal.all-preserved
all-preserved c = λ head_at told made.
    let tells : Around → Type 0 = λ a. head_at a.number ≡ head_of a.head.now in
    let one = all_at tells c.args.blocks.now c.all.index c.index-blocks-index.result told c.all-test.true c.index-blocks-index.is in
    c.in_ok-add_block.ensures head_at (one, tt) (c.all.invariant head_at told made)
