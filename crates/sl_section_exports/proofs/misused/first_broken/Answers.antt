use Rattle.std.proofs.Common.{not, Some, ap, sym, ◌∙◌}
use Rattle.sl_spec_rules.proofs.Seen.{below_map, seen_map}
use Rattle.sl_section_exports.specs.Views.{row_of, rows_of}
use Rattle.sl_section_exports.proofs.MisusedLemmas.{breaks_by}
use Rattle.sl_section_exports.proofs.RowLemmas.{is_first, is_later}
use Rattle.sl_section_exports.proofs.misused.first_broken.Goals as goal

pub returns-then-not-branch : goal.returns-then-not-branch
returns-then-not-branch c =
    let test = breaks_by c.args.assigned.now c.args.constants.now c.args.no_target.now in
    let rs = c.args.rows.now in
    let i = c.rows.index in
    let r = c.index-rows-index.result in
    ap Some c.place.ensures ∙ is_first test (rows_of rs) i (row_of r) (below_map row_of rs i c.rows-test.true) (seen_map row_of rs i r c.rows-test.true c.index-rows-index.is)
    (ap not (sym c.in_ok-keeps.ensures ∙ c.if-not-branch.true)) c.rows.invariant

pub rows-preserved : goal.rows-preserved
rows-preserved c =
    let test = breaks_by c.args.assigned.now c.args.constants.now c.args.no_target.now in
    let rs = c.args.rows.now in
    let i = c.rows.index in
    let r = c.index-rows-index.result in
    is_later test (rows_of rs) i (row_of r) (below_map row_of rs i c.rows-test.true) (seen_map row_of rs i r c.rows-test.true c.index-rows-index.is)
    (ap not (sym c.in_ok-keeps.ensures ∙ c.if-not-branch.false)) c.rows.invariant
