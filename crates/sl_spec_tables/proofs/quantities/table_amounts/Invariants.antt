use Rattle.sl_base_graphs.proofs.LevelLemmas.{AreRight}
use Rattle.sl_spec_tables.specs.Lengths.{step}
use Rattle.sl_spec_tables.specs.Rows.{graph, group}
use Rattle.sl_spec_tables.specs.Views.{groups_of}
use Rattle.sl_spec_tables.proofs.quantities.table_amounts.Given as goal

abbrev pub invariant-order : goal.invariant-order
invariant-order l = AreRight (graph (groups_of l.groups)) (step l.quantity l.t) (group (groups_of l.groups)) l.order 1025 l.values.items l.place
