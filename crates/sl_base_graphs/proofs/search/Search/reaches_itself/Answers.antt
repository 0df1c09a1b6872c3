use Rattle.std.proofs.Common.{ℕ, List, sym, ap, ◌∙◌, arith}
use Rattle.std.specs.Prelude.{slice_get}
use Rattle.std.specs.List.{list_any}
use Rattle.std.proofs.lemmas.List.{length-map}
use Rattle.sl_base_graphs.specs.States.{is_numbered}
use Rattle.sl_base_graphs.specs.Views.{graph_of}
use Rattle.sl_base_graphs.proofs.Outcome.{reaching}
use Rattle.sl_base_graphs.proofs.Seen.{items, read_node}
use Rattle.sl_base_graphs.proofs.search.Search.reaches_itself.Goals as goal

pub returns-in-Closed : goal.returns-in-Closed
returns-in-Closed c =
    let s = c.args.self.now in
    let k = c.in-Closed.number in
    let e = read_node c.args.graph.now c.args.node c.index-graph-node.result c.requires.node c.index-graph-node.is in
    c.some_is_in.ensures
    ∙ ap (λ (l : List ℕ). list_any (λ w. is_numbered k (slice_get s.places w)) l) (c.as_slice.ensures.value ∙ sym e)
    ∙ reaching (graph_of c.args.graph.now) s c.requires.done c.args.node k (omega (arith, length-map c.args.graph.now items, c.requires.node)) (sym c.place.ensures ∙ c.in-Closed.is)

pub returns-in_default : goal.returns-in_default
returns-in_default c =
    let d = c.requires.done.closed c.args.node (omega (arith, length-map c.args.graph.now items, c.requires.node)) in
    absurd (c.in_default.not-Closed d.0 (c.place.ensures ∙ d.1))
