use Rattle.std.proofs.Common.{take}
use Rattle.sl_spec_order.proofs.OrderLemmas.{graph_is, graph_more}
use Rattle.sl_spec_order.proofs.graph.table_graph.Goals as goal

pub ctors-preserved : goal.ctors-preserved
ctors-preserved c =
    graph_more c.args.count c.ctors.index c.args.ctors.now c.index-ctors-index.result c.add_ctor.new.lists.items c.ctors-test.true c.index-ctors-index.is
    (c.in_ok-add_ctor.ensures c.args.count (take c.ctors.index c.args.ctors.now) c.ctors.invariant)

pub returns : goal.returns
returns c = graph_is c.args.count c.ctors.index c.args.ctors.now c.ctors.lists.items c.ctors-test.false c.ctors.invariant
