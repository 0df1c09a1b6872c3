use Rattle.sl_decode_meaning.specs.Places.{bare_place}
use Rattle.sl_decode_leaves.specs.Extents.{leaves_at}
use Rattle.sl_decode_leaves.proofs.LeafLemmas.{all_added, one_added}
use Rattle.sl_decode_leaves.proofs.leaves.alone_in.Goals as goal

pub leaves-preserved : goal.leaves-preserved
leaves-preserved c = λ lengths name.
    let ls = c.args.leaves.now in
    one_added (bare_place name) lengths ls c.leaves.index (bare_place name (leaves_at lengths ls)) c.index-leaves-index.result (leaves_at lengths c.leaves.all.items) (leaves_at lengths c.add_alone.new.all.items) c.leaves-test.true c.index-leaves-index.is
    (c.in_ok-add_alone.ensures lengths name _) (c.leaves.invariant lengths name)

pub returns : goal.returns
returns c = λ lengths name.
    let ls = c.args.leaves.now in
    all_added (bare_place name) lengths ls c.leaves.index (bare_place name (leaves_at lengths ls)) (leaves_at lengths c.leaves.all.items) c.leaves-test.false (c.leaves.invariant lengths name)
