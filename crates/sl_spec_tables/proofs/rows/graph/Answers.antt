use Rattle.std.proofs.Common.{List, ap, ◌∙◌}
use Rattle.sl_spec_rules.proofs.Seen.{below_map, seen_map}
use Rattle.sl_base_graphs.specs.Views.{graph_of}
use Rattle.sl_spec_tables.specs.Rows.{tables_in}
use Rattle.sl_spec_tables.specs.Views.{rows_of}
use Rattle.sl_spec_tables.specs.declared.rows.Row.{Row}
use Rattle.sl_spec_tables.proofs.RowLemmas.{made_more}
use Rattle.sl_spec_tables.proofs.rows.graph.Goals as goal

pub groups-preserved : goal.groups-preserved
groups-preserved c =
    let gs = c.args.groups.now in
    let g = c.index-groups-index.result in
    ap graph_of c.in_ok-push.ensures.items
    ∙ made_more _ tables_in _ c.groups.all.items _ (rows_of g.items) c.groups.index (below_map _ gs c.groups.index c.groups-test.true)
    (seen_map _ gs c.groups.index g c.groups-test.true c.index-groups-index.is)
    (c.in_ok-tables_in.ensures ∙ ap (λ (l : List Row). tables_in (rows_of l)) c.as_slice.ensures.value) c.groups.invariant
