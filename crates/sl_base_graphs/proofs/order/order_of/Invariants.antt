use Rattle.std.proofs.Common.{◌≡◌, ◌<◌, ℕ, false, length, get_or}
use Rattle.sl_base_graphs.specs.Reaching.{reaches_itself}
use Rattle.sl_base_graphs.specs.Views.{graph_of}
use Rattle.sl_base_graphs.proofs.order.order_of.Given as goal

abbrev pub invariant-nodes : goal.invariant-nodes
invariant-nodes l = record {
  long : length l.reaching.items ≡ l.node;
  right : (v : ℕ) → v < l.node → get_or l.reaching.items v false ≡ reaches_itself (graph_of l.graph) v;
}
