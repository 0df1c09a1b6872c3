use Rattle.std.proofs.Common.{ℕ, List, sym, subst}
use Rattle.sl_base_graphs.specs.Orders.{IsOrder}
use Rattle.sl_base_graphs.specs.Views.{graph_of}
use Rattle.sl_base_graphs.proofs.Outcome.{in_order}
use Rattle.sl_base_graphs.proofs.order.order_of.Goals as goal

pub returns-clause-order : goal.returns-clause-order
returns-clause-order c = λ none.
    let g = graph_of c.args.graph.now in
    subst (λ (l : List ℕ). IsOrder g l) (sym c.into_order-order.ensures) (in_order g c.in_ok-search.search c.in_ok-search.ensures none)
