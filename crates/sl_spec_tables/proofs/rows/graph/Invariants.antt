use Rattle.std.proofs.Common.{◌≡◌, map, take}
use Rattle.sl_base_graphs.specs.Views.{graph_of}
use Rattle.sl_spec_tables.specs.Rows.{tables_in}
use Rattle.sl_spec_tables.specs.Views.{groups_of}
use Rattle.sl_spec_tables.proofs.rows.graph.Given as goal

abbrev pub invariant-groups : goal.invariant-groups
invariant-groups l = graph_of l.all.items ≡ map tables_in (take l.index (groups_of l.groups))
