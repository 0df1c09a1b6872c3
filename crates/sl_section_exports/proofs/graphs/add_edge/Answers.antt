use Rattle.std.proofs.Common.{arith}
use Rattle.sl_section_exports.proofs.GraphLemmas.{put_edge}
use Rattle.sl_section_exports.proofs.graphs.add_edge.Goals as goal

pub returns-in_ok-push : goal.returns-in_ok-push
returns-in_ok-push c =
    put_edge c.args.graph.now.items c.args.edge.0 c.args.edge.1 c.index_mut.result.now c.push.new.self
    (omega (arith, c.if-from-len.true, c.len.ensures, c.args.graph.now.ok.0)) c.index_mut.ensures.value c.in_ok-push.ensures.items
