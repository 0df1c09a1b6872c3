use Rattle.std.proofs.Common.{◌≡◌, map, take}
use Rattle.sl_base_graphs.specs.Views.{graph_of}
use Rattle.sl_spec_rules.specs.Gathered.{gathered}
use Rattle.sl_shape.specs.HeadsMade.{AreHeadTables, AreMadeOf}
use Rattle.sl_shape.specs.Tables.{named_by, pattern_at}
use Rattle.sl_spec.specs.Unfolded.{all_placed}
use Rattle.sl_shape.proofs.order.table_graph.Given as goal

abbrev pub invariant-tables : goal.invariant-tables
invariant-tables l = record {
  are : graph_of l.graph.items
      ≡ map (λ b. gathered (λ i. named_by l.t (pattern_at (all_placed l.constructors) i)) b.constructors) (take l.index l.t.tables);
  kept : AreMadeOf (AreHeadTables l.t) l.constructors l.made;
}
