use Rattle.std.proofs.Common.{◌≡◌, length}
use Rattle.sl_base_graphs.specs.Orders.{NoneReaches}
use Rattle.sl_base_graphs.specs.Views.{graph_of}
use Rattle.sl_base_graphs.proofs.HeightLemmas.{AreRight}
use Rattle.sl_base_graphs.proofs.heights.heights_of.Given as goal

abbrev pub invariant-order : goal.invariant-order
invariant-order l = record {
  long : length l.heights.items ≡ length l.graph;
  right : NoneReaches (graph_of l.graph) → AreRight (graph_of l.graph) l.order.items l.heights.items l.place;
}
