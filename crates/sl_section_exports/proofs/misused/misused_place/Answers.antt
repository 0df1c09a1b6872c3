use Rattle.std.proofs.Common.{◌≡◌, ℕ, Bool, List, length, ap, ◌∙◌}
use Rattle.std.specs.List.{zip}
use Rattle.sl_spec.specs.Tables.{Ctor}
use Rattle.sl_spec.specs.Unfolded.{all_placed}
use Rattle.sl_spec_tables.specs.Views as all
use Rattle.sl_spec_tables.specs.declared.rows.Row as code
use Rattle.sl_section_exports.specs.Exports.{Row, constants, first_place, is_assigned, is_no_target, rows}
use Rattle.sl_section_exports.specs.Spreading.{is_one_of}
use Rattle.sl_section_exports.specs.Spreads.{mark_of}
use Rattle.sl_section_exports.specs.Views.{rows_of, sections_of}
use Rattle.sl_section_exports.proofs.MisusedLemmas.{as_marked, at_rows, breaks_by}
use Rattle.sl_section_exports.proofs.misused.misused_place.Goals as goal

pub returns : goal.returns
returns c =
    let cs = all_placed c.args.constructors.now in
    let ss = sections_of c.args.sections.now in
    let default = c.in_ok-default.default.0 in
    let count = c.len-count.result in
    let rs = rows_of c.as_slice-rows.result.now in
    let assigned = c.in_ok-assigned.assigned.items in
    let constant = c.in_ok-constants.constants.items in
    let wrong = c.in_ok-no_target.no_target.items in
    let is : rs ≡ rows c.args.t.now cs ss =
    ap rows_of c.as_slice-rows.ensures.value ∙ c.in_ok-rows.ensures
    ∙ ap (λ l. zip (all.rows_of l) ss) c.as_slice-2.ensures.value
    ∙ ap (λ l. zip l ss) (c.in_ok-all.ensures.all ∙ ap (λ (l : List Ctor). zip l cs) c.as_slice.ensures) in
    c.in_ok-at.ensures
    ∙ ap (λ (l : List Bool). first_place (breaks_by l c.as_slice-4.result.now c.as_slice-5.result.now) rs) c.as_slice-3.ensures.value
    ∙ ap (λ (l : List Bool). first_place (breaks_by assigned l c.as_slice-5.result.now) rs) c.as_slice-4.ensures.value
    ∙ ap (λ (l : List Bool). first_place (breaks_by assigned constant l) rs) c.as_slice-5.ensures.value
    ∙ as_marked default count rs assigned constant wrong c.in_ok-assigned.ensures c.in_ok-constants.ensures c.in_ok-no_target.ensures
    ∙ at_rows c.args.t.now cs ss default count rs c.in_ok-default.ensures c.len-count.ensures is
