use Rattle.sl_store_text.specs.Firsts.{indexes_in}
use Rattle.sl_store_text.proofs.FirstLemmas.{all_joined, joins}
use Rattle.sl_store_text.proofs.firsts.add_inside.Goals as goal

pub inside-preserved : goal.inside-preserved
inside-preserved c =
    joins indexes_in c.args.firsts.now.items c.args.inside.now c.inside.firsts.items c.add_inner.new.firsts.items c.inside.index
    c.index-inside-index.result c.inside-test.true c.index-inside-index.is c.in_ok-add_inner.ensures c.inside.invariant

pub returns : goal.returns
returns c =
    all_joined indexes_in c.args.firsts.now.items c.args.inside.now c.inside.firsts.items c.inside.index c.inside-test.false c.inside.invariant
