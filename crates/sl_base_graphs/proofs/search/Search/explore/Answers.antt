use Rattle.std.proofs.Common.{sym, subst, ◌∙◌, arith}
use Rattle.sl_base_graphs.specs.Searches.{IsSearch}
use Rattle.sl_base_graphs.specs.States.{State}
use Rattle.sl_base_graphs.specs.Views.{graph_of}
use Rattle.sl_base_graphs.proofs.Entering.{enters}
use Rattle.sl_base_graphs.proofs.search.Search.explore.Goals as goal

pub finish-requires : goal.finish-requires
finish-requires c =
    let g = graph_of c.args.graph.now in
    let s = c.args.self.now in
    subst (λ (t : State). IsSearch g t) (sym c.in_ok-enter-in-Unseen.ensures)
    (enters g s c.args.root c.requires.search (record { unseen = sym c.place.ensures ∙ c.in-Unseen.is; reached = λ i below. absurd (omega (arith, c.requires.empty)) }))
