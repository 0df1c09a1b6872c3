use Rattle.std.proofs.Common.{◌≡◌, ◌<◌, ◌++◌, ◌∷◌, [], List, length, get_or, map, take, ap, ◌∙◌, sym, arith}
use Rattle.std.specs.List.{zip}
use Rattle.std.proofs.lemmas.List.{length-map, map_push}
use Rattle.sl_spec_rules.proofs.Seen.{below_map, seen_map}
use Rattle.sl_spec.specs.Tables.{Ctor}
use Rattle.sl_spec.specs.Unfolded.{all_placed}
use Rattle.sl_spec_tables.proofs.PositionLemmas.{read_alike}
use Rattle.sl_spec_tables.proofs.RowLemmas.{zip_all, zip_more}
use Rattle.sl_spec_tables.specs.Rows as spec
use Rattle.sl_spec_tables.specs.Views.{row_of, rows_of}
use Rattle.sl_spec_tables.specs.declared.rows.Row.{Row}
use Rattle.sl_section_resolve.specs.MacroViews.{bodies_of}
use Rattle.sl_section_terms.specs.declared.reach.Reach.{Reach}
use Rattle.sl_section_all.specs.FlatSections.{Flat, row_section}
use Rattle.sl_section_all.specs.Views.{flat_of, flats_of}
use Rattle.sl_section_all.proofs.sections.flat_sections.Goals as goal

pub rows-preserved : goal.rows-preserved
rows-preserved c =
    let rs = c.as_slice-rows.result.now in
    let reaches = c.args.reaches.now in
    let i = c.rows.index in
    let r = c.index-rows-index.result in
    let f : spec.Row × Reach → Flat = row_section c.args.t.now (bodies_of c.args.macros.now) in
    let s = c.in_ok-row_section.field-0 in
    let m = c.min-index-end.ensures in
    let t = c.rows-test.true in
    let bx : i < length rs = omega arith in
    let by : i < length reaches = omega arith in
    let reach : Reach = get_or reaches i (record { spaces = 0; registers = 0; bit_ranges = 0; userops = 0; macros = 0 }) in
    let before : List (spec.Row × Reach) = zip (take i (rows_of rs)) (take i reaches) in
    ap flats_of c.in_ok-push.ensures.items ∙ map_push flat_of c.rows.sections.items s
    ∙ ap (λ (l : List Flat). l ++ flat_of s ∷ []) c.rows.invariant
    ∙ ap (λ (x : Flat). map f before ++ x ∷ []) c.in_ok-row_section.ensures
    ∙ sym (ap (map f) (zip_more (rows_of rs) reaches i (row_of r) reach (below_map row_of rs i bx) by (seen_map row_of rs i r bx c.index-rows-index.is) (read_alike reaches i _ reach by))
    ∙ map_push f before (row_of r, reach))

pub returns : goal.returns
returns c =
    let rs = c.as_slice-rows.result.now in
    let reaches = c.args.reaches.now in
    let cs = all_placed c.args.constructors.now in
    let f : spec.Row × Reach → Flat = row_section c.args.t.now (bodies_of c.args.macros.now) in
    let m = c.min-index-end.ensures in
    let t = c.rows-test.false in
    c.rows.invariant
    ∙ ap (map f) (zip_all (rows_of rs) reaches c.rows.index (omega (arith, length-map rs row_of)))
    ∙ ap (λ (l : List Row). map f (zip (rows_of l) reaches)) c.as_slice-rows.ensures.value
    ∙ ap (λ (l : List spec.Row). map f (zip l reaches)) (c.in_ok-rows.ensures.all ∙ ap (λ (l : List Ctor). zip l cs) c.as_slice.ensures)
