use Rattle.std.proofs.Common.{◌≡◌, ◌<◌, ℕ, List, Vec, Global, length, get_or, sym, ◌∙◌, arith}
use Rattle.std.proofs.lemmas.List.{get_or_default, length-map}
use Rattle.sl_base_graphs.specs.Views.{graph_of}
use Rattle.sl_base_graphs.proofs.HeightLemmas.{all_right, one_right}
use Rattle.sl_base_graphs.proofs.heights.heights_of.Goals as goal

-- a graph as it is seen has the same number of nodes
nodes_of : (graph : List (Vec ℕ Global)) → length (graph_of graph) ≡ length graph
nodes_of graph = length-map graph (λ (l : Vec ℕ Global). l.items)

pub order-preserved : goal.order-preserved
order-preserved c = record {
  long = c.set_height.ensures.long ∙ c.order.invariant.long;
  right = λ none.
      let graph = c.args.graph.now in
      let order = c.in_ok-levels.levels.order.items in
      let heights = c.order.heights.items in
      let i = c.order.place in
      let v = c.index.result.now in
      let is = c.in_ok-levels.ensures.order none in
      let below : i < length order = omega (arith, c.order-test.true, c.len-place-end.ensures, c.in_ok-levels.levels.order.ok.0) in
      let here : v ≡ get_or order i 0 = c.index.ensures ∙ get_or_default order i v 0 below in
      let node = is.nodes i below in
      let in_graph : v < length graph = omega (arith, node, here, nodes_of graph) in
      let in_heights : v < length heights = omega (arith, in_graph, c.order.invariant.long) in
      one_right (graph_of graph) order heights c.set_height.new.heights.items i v is below here (c.order.invariant.long ∙ sym (nodes_of graph))
      (c.in_ok-set_height.ensures.here in_graph in_heights) (c.order.invariant.right none);
}

pub returns : goal.returns
returns c = λ none.
    let graph = c.args.graph.now in
    let order = c.in_ok-levels.levels.order.items in
    all_right (graph_of graph) order c.order.heights.items c.order.place (c.in_ok-levels.ensures.order none) (c.order.invariant.long ∙ sym (nodes_of graph))
    (omega (arith, c.order-test.false, c.len-place-end.ensures, c.in_ok-levels.levels.order.ok.0)) (c.order.invariant.right none)
