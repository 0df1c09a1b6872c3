use Rattle.sl_decode_meaning.specs.Actions.{look}
use Rattle.sl_decode_leaves.specs.Extents.{leaf_at, leaves_at}
use Rattle.sl_decode_leaves.specs.Looks.{look_step}
use Rattle.sl_decode_leaves.proofs.RunLemmas.{all_done, went_on_at}
use Rattle.sl_decode_leaves.proofs.looks.looks_of.Goals as goal

pub leaves-preserved : goal.leaves-preserved
leaves-preserved c = λ s.
    went_on_at (look c.args.t.now c.args.operands.now s) (look_step c.args.t.now s) (leaves_at s.lengths c.args.leaves.now) (leaf_at s.lengths) c.args.leaves.now c.leaves.leaf-index
    _ c.leaf-item.result c.leaves.all.items c.add_step.new.all.items c.in_ok-step.step c.leaves-test.true c.leaf-item.is (c.in_ok-step.ensures s)
    c.in_ok-add_step.ensures (c.leaves.invariant s)

pub returns : goal.returns
returns c = λ s.
    all_done (look c.args.t.now c.args.operands.now s) (look_step c.args.t.now s) (leaves_at s.lengths c.args.leaves.now) (leaf_at s.lengths) c.args.leaves.now c.leaves.leaf-index
    c.leaves.all.items c.leaves-test.false (c.leaves.invariant s)
