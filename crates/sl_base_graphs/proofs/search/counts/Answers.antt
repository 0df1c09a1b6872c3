use Rattle.std.proofs.Common.{[], ◌∷◌, ◌++◌, List, ℕ, length, sym, ap, ◌∙◌, arith}
use Rattle.std.proofs.lemmas.List.{length-map}
use Rattle.sl_base_graphs.specs.Views.{graph_of}
use Rattle.sl_base_graphs.proofs.Seen.{items, mapped_more, read_node}
use Rattle.sl_base_graphs.proofs.search.counts.Goals as goal

pub nodes-preserved : goal.nodes-preserved
nodes-preserved c =
    let e = read_node c.args.graph.now c.nodes.index c.index-graph-index.result c.nodes-test.true c.index-graph-index.is in
    c.in_ok-push.ensures.items
    ∙ ap (λ n. c.nodes.counts.items ++ n ∷ []) (ap length (c.as_slice.ensures.value ∙ sym e))
    ∙ mapped_more (λ (l : List ℕ). length l) (graph_of c.args.graph.now) c.nodes.counts.items c.nodes.index [] (omega (arith, length-map c.args.graph.now items, c.nodes-test.true)) c.nodes.invariant
