use Rattle.std.proofs.Common.{◌++◌, [], List, ap, ◌∙◌, sym}
use Rattle.sl_spec_rules.proofs.Gathers.{all_gathered, gathers}
use Rattle.sl_spec_rules.proofs.Seen.{below_map, past_map, seen_map}
use Rattle.sl_spec_rules.specs.Gathered.{gathered}
use Rattle.sl_spec.specs.Tables.{Ctor, Operand}
use Rattle.sl_spec_tables.specs.Rows.{table_of, tables_of}
use Rattle.sl_spec_tables.specs.Views.{row_of}
use Rattle.sl_spec_tables.specs.declared.rows.Row.{Row}
use Rattle.sl_spec_tables.proofs.rows.tables_in.Goals as goal

pub rows-preserved : goal.rows-preserved
rows-preserved c =
    let rs = c.args.rows.now in
    let r = c.index-rows-index.result in
    gathers (λ r. tables_of r.0) [] _ c.rows.all.items c.add_tables.new.all.items c.rows.index (row_of r) (below_map row_of rs c.rows.index c.rows-test.true)
    (seen_map row_of rs c.rows.index r c.rows-test.true c.index-rows-index.is)
    (c.in_ok-add_tables.ensures ∙ ap (λ (os : List Operand). c.rows.all.items ++ gathered (λ o. table_of o.means) os) c.as_slice.ensures.value ∙ ap (λ (x : Ctor). c.rows.all.items ++ tables_of x) c.ctor.view_is ∙ ap (λ (x : Row). c.rows.all.items ++ tables_of x.ctor.now) (sym c.index-rows-index.is))
    c.rows.invariant

pub returns : goal.returns
returns c = all_gathered (λ r. tables_of r.0) [] _ c.rows.all.items c.rows.index (past_map row_of c.args.rows.now c.rows.index c.rows-test.false) c.rows.invariant
