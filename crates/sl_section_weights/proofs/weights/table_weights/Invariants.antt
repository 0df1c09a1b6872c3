use Rattle.std.proofs.Common.{◌≡◌, length}
use Rattle.sl_base_graphs.proofs.LevelLemmas.{AreRight}
use Rattle.sl_base_graphs.specs.Orders.{IsOrder}
use Rattle.sl_section_resolve.specs.MacroViews.{bodies_of}
use Rattle.sl_spec_tables.specs.Rows.{graph, group}
use Rattle.sl_spec_tables.specs.Views.{groups_of}
use Rattle.sl_section_weights.specs.Weights.{step}
use Rattle.sl_section_weights.proofs.weights.table_weights.Given as goal

abbrev pub invariant-order : goal.invariant-order
invariant-order l =
    let gs = groups_of l.groups in
    IsOrder (graph gs) l.order → AreRight (graph gs) (step (bodies_of l.macros)) (group gs) l.order 65537 l.values.items l.place
