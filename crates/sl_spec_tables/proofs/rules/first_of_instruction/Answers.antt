use Rattle.std.proofs.Common.{Bool, ap, sym, ◌∙◌, Some}
use Rattle.sl_spec_rules.proofs.Seen.{below_map, past_map, seen_map}
use Rattle.sl_spec_tables.specs.Rows as spec
use Rattle.sl_spec_tables.specs.Rows.{is_of}
use Rattle.sl_spec_tables.specs.Views.{row_of, rows_of}
use Rattle.sl_spec_tables.proofs.RuleLemmas.{found_here, found_later, found_nowhere}
use Rattle.sl_spec_tables.proofs.rules.first_of_instruction.Goals as goal

pub rows-preserved : goal.rows-preserved
rows-preserved c =
    let test : spec.Row → Bool = is_of 0 in
    let rs = c.args.rows.now in
    let i = c.rows.index in
    let r = c.index-rows-index.result in
    found_later test (rows_of rs) i (row_of r) (below_map row_of rs i c.rows-test.true) (seen_map row_of rs i r c.rows-test.true c.index-rows-index.is) _
    (sym c.is_of_instruction.ensures ∙ c.if-is_of_instruction.false) c.rows.invariant

pub returns-then-is_of_instruction : goal.returns-then-is_of_instruction
returns-then-is_of_instruction c =
    let test : spec.Row → Bool = is_of 0 in
    let rs = c.args.rows.now in
    let i = c.rows.index in
    let r = c.index-rows-index.result in
    ap Some c.place.ensures ∙ found_here test (rows_of rs) i (row_of r) (below_map row_of rs i c.rows-test.true) (seen_map row_of rs i r c.rows-test.true c.index-rows-index.is) _
    (sym c.is_of_instruction.ensures ∙ c.if-is_of_instruction.true) c.rows.invariant

pub returns : goal.returns
returns c =
    let test : spec.Row → Bool = is_of 0 in
    found_nowhere test (rows_of c.args.rows.now) c.rows.index _ (past_map row_of c.args.rows.now c.rows.index c.rows-test.false) c.rows.invariant
