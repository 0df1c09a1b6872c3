use Rattle.std.proofs.Common.{◌≡◌, length, ap, sym, ◌∙◌, arith}
use Rattle.std.proofs.lemmas.List.{length-map}
use Rattle.sl_base_graphs.proofs.Seen.{items, read_node}
use Rattle.sl_base_graphs.specs.Reaching.{successors}
use Rattle.sl_base_graphs.specs.Views.{graph_of}
use Rattle.sl_section_exports.proofs.SpreadLemmas.{visiting_ends, visiting_goes, visits_none}
use Rattle.sl_section_exports.proofs.spread.Spread.visit_all.Goals as goal

pub successors-preserved : goal.successors-preserved
successors-preserved c =
    let graph = c.args.graph.now in
    let v = c.args.node in
    let next = c.as_slice-next.result.now in
    let is : successors (graph_of graph) v ≡ next = read_node graph v c.index-graph-node.result c.if-node-graph.true c.index-graph-node.is ∙ sym c.as_slice-next.ensures.value in
    visiting_goes (graph_of graph) v next c.args.self.now.marks.items c.args.self.now.stack.items c.successors.self.marks.items c.successors.self.stack.items
    c.visit.new.self.marks.items c.visit.new.self.stack.items c.successors.index is c.successors-test.true c.in_ok-visit.ensures c.successors.invariant

pub returns-after-successors : goal.returns-after-successors
returns-after-successors c =
    let graph = c.args.graph.now in
    let v = c.args.node in
    let next = c.as_slice-next.result.now in
    let is : successors (graph_of graph) v ≡ next = read_node graph v c.index-graph-node.result c.if-node-graph.true c.index-graph-node.is ∙ sym c.as_slice-next.ensures.value in
    visiting_ends (graph_of graph) v next c.args.self.now.marks.items c.args.self.now.stack.items c.successors.self.marks.items c.successors.self.stack.items c.successors.index
    is (omega (arith, c.successors-test.false)) c.successors.invariant

pub returns-else-node-graph : goal.returns-else-node-graph
returns-else-node-graph c =
    let graph = c.args.graph.now in
    visits_none (graph_of graph) c.args.node c.args.self.now.marks.items c.args.self.now.stack.items (omega (arith, c.if-node-graph.false, length-map graph items))
