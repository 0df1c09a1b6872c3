use Rattle.std.proofs.Common.{◌≡◌, ◌&&◌, ℕ, Bool, not, List, ap, ◌∙◌}
use Rattle.std.specs.List.{zip}
use Rattle.sl_spec.specs.Tables.{Ctor}
use Rattle.sl_spec.specs.Unfolded.{all_placed}
use Rattle.sl_spec_tables.specs.Rows as tables
use Rattle.sl_spec_tables.specs.Views as all
use Rattle.sl_spec_tables.specs.declared.rows.Row as code
use Rattle.sl_section_exports.specs.Exports.{Row, exporting, first_place, silent}
use Rattle.sl_section_exports.specs.Spreading.{is_one_of}
use Rattle.sl_section_exports.specs.Spreads.{mark_of}
use Rattle.sl_section_exports.specs.Views.{rows_of, sections_of}
use Rattle.sl_section_exports.specs.declared.rows.Sectioned.{Sectioned}
use Rattle.sl_section_exports.proofs.UnexportedLemmas.{as_marked, at_rows, breaks_by}
use Rattle.sl_section_exports.proofs.unexported.unexported_place.Goals as goal

pub returns : goal.returns
returns c =
    let cs = all_placed c.args.constructors.now in
    let ss = sections_of c.args.sections.now in
    let rs = all.rows_of c.as_slice-all.result.now in
    let is : rs ≡ tables.rows c.args.t.now cs =
    ap all.rows_of c.as_slice-all.ensures.value ∙ c.in_ok-all.ensures.all ∙ ap (λ (l : List Ctor). zip l cs) c.as_slice.ensures in
    let exports : (v : ℕ) → mark_of c.in_ok-exporting.exporting.items v ≡ is_one_of (exporting rs) v =
    λ v. c.in_ok-exporting.ensures v ∙ ap (λ l. is_one_of l v) (c.as_slice-2.ensures.value ∙ c.in_ok-tables.ensures) in
    let is_silent : (v : ℕ) → mark_of c.in_ok-silent.silent.items v ≡ is_one_of (silent rs) v =
    λ v. c.in_ok-silent.ensures v ∙ ap (λ l. is_one_of l v) (c.as_slice-3.ensures.value ∙ c.in_ok-tables-2.ensures) in
    c.in_ok-at.ensures
    ∙ ap (λ (l : List Bool). first_place (breaks_by l c.as_slice-5.result.now) (rows_of c.as_slice-6.result.now)) c.as_slice-4.ensures.value
    ∙ ap (λ (l : List Bool). first_place (breaks_by c.in_ok-exporting.exporting.items l) (rows_of c.as_slice-6.result.now)) c.as_slice-5.ensures.value
    ∙ ap (λ (l : List Sectioned). first_place (breaks_by c.in_ok-exporting.exporting.items c.in_ok-silent.silent.items) (rows_of l)) c.as_slice-6.ensures.value
    ∙ ap (λ (l : List Row). first_place (breaks_by c.in_ok-exporting.exporting.items c.in_ok-silent.silent.items) l) c.in_ok-rows.ensures
    ∙ as_marked rs (zip rs ss) c.in_ok-exporting.exporting.items c.in_ok-silent.silent.items exports is_silent
    ∙ at_rows c.args.t.now cs ss rs is
