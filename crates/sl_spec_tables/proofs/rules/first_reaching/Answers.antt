use Rattle.std.proofs.Common.{Bool, ap, sym, ◌∙◌, get_or, false, Some}
use Rattle.sl_spec_rules.proofs.Seen.{below_map, past_map, seen_map}
use Rattle.sl_spec_tables.specs.Rows as spec
use Rattle.sl_spec_tables.specs.Rows.{is_of}
use Rattle.sl_spec_tables.specs.Views.{row_of, rows_of}
use Rattle.sl_spec_tables.proofs.RuleLemmas.{found_here, found_later, found_nowhere}
use Rattle.sl_spec_tables.proofs.rules.first_reaching.Goals as goal

pub rows-preserved : goal.rows-preserved
rows-preserved c =
    let test : spec.Row → Bool = λ r. get_or c.args.told.now r.0.table false in
    let rs = c.args.rows.now in
    let i = c.rows.index in
    let r = c.index-rows-index.result in
    found_later test (rows_of rs) i (row_of r) (below_map row_of rs i c.rows-test.true) (seen_map row_of rs i r c.rows-test.true c.index-rows-index.is) _
    (sym c.reaches.ensures ∙ c.if-reaches.false) c.rows.invariant

pub returns-then-reaches : goal.returns-then-reaches
returns-then-reaches c =
    let test : spec.Row → Bool = λ r. get_or c.args.told.now r.0.table false in
    let rs = c.args.rows.now in
    let i = c.rows.index in
    let r = c.index-rows-index.result in
    ap Some c.place.ensures ∙ found_here test (rows_of rs) i (row_of r) (below_map row_of rs i c.rows-test.true) (seen_map row_of rs i r c.rows-test.true c.index-rows-index.is) _
    (sym c.reaches.ensures ∙ c.if-reaches.true) c.rows.invariant

pub returns : goal.returns
returns c =
    let test : spec.Row → Bool = λ r. get_or c.args.told.now r.0.table false in
    found_nowhere test (rows_of c.args.rows.now) c.rows.index _ (past_map row_of c.args.rows.now c.rows.index c.rows-test.false) c.rows.invariant
