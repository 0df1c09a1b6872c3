use Rattle.sl_decode_meaning.specs.Places.{first_place}
use Rattle.sl_decode_leaves.specs.Extents.{leaves_at}
use Rattle.sl_decode_leaves.proofs.LeafLemmas.{all_added, one_added}
use Rattle.sl_decode_leaves.proofs.leaves.firsts_in.Goals as goal

pub leaves-preserved : goal.leaves-preserved
leaves-preserved c = λ lengths name.
    let ls = c.args.leaves.now in
    one_added (first_place name) lengths ls c.leaves.index (first_place name (leaves_at lengths ls)) c.index-leaves-index.result (leaves_at lengths c.leaves.all) (leaves_at lengths c.add_first.new.all) c.leaves-test.true c.index-leaves-index.is
    (c.in_ok-add_first.ensures lengths name _) (c.leaves.invariant lengths name)

pub returns : goal.returns
returns c = λ lengths name.
    let ls = c.args.leaves.now in
    all_added (first_place name) lengths ls c.leaves.index (first_place name (leaves_at lengths ls)) (leaves_at lengths c.leaves.all) c.leaves-test.false (c.leaves.invariant lengths name)
