use Rattle.sl_bind.specs.Indexes.{indexes_in}
use Rattle.sl_spec_rules.proofs.Gathers.{all_gathered, gathers}
use Rattle.sl_bind.proofs.indexes.add_inside.Goals as goal

pub inside-preserved : goal.inside-preserved
inside-preserved c =
    gathers indexes_in c.args.all.now c.args.inside.now c.inside.all c.add_inner.new.all c.inside.index
    c.index-inside-index.result c.inside-test.true c.index-inside-index.is c.in_ok-add_inner.ensures c.inside.invariant

pub returns : goal.returns
returns c =
    all_gathered indexes_in c.args.all.now c.args.inside.now c.inside.all c.inside.index c.inside-test.false c.inside.invariant
