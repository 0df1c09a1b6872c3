use Rattle.std.proofs.Common.{◌<◌, ◌++◌, ◌∷◌, [], List, length, ap, ◌∙◌, sym, arith}
use Rattle.std.proofs.lemmas.List.{length-map, map_push}
use Rattle.sl_spec_rules.proofs.Seen.{below_map, seen_map}
use Rattle.sl_spec_tables.proofs.RowLemmas.{zip_all, zip_more}
use Rattle.sl_spec_tables.specs.Views as all
use Rattle.sl_section_exports.specs.Exports as spec
use Rattle.sl_section_exports.specs.Views.{row_of, rows_of, sections_of, steps_in}
use Rattle.sl_section_exports.proofs.rows.with_sections.Goals as goal

pub rows-preserved : goal.rows-preserved
rows-preserved c =
    let rs = c.args.rows.now in
    let ss = c.args.sections.now in
    let i = c.rows.index in
    let r = c.index-rows-index.result in
    let s = c.index-sections-index.result in
    let m = c.min-index-end.ensures in
    let t = c.rows-test.true in
    let bx : i < length rs = omega arith in
    let by : i < length ss = omega arith in
    ap rows_of c.in_ok-push.ensures.items ∙ map_push row_of c.rows.out.items _
    ∙ ap (λ (l : List spec.Row). l ++ (all.row_of r, steps_in s) ∷ []) c.rows.invariant
    ∙ sym (zip_more (all.rows_of rs) (sections_of ss) i (all.row_of r) (steps_in s) (below_map all.row_of rs i bx) (below_map steps_in ss i by)
    (seen_map all.row_of rs i r bx c.index-rows-index.is) (seen_map steps_in ss i s by c.index-sections-index.is))

pub returns : goal.returns
returns c =
    let m = c.min-index-end.ensures in
    let t = c.rows-test.false in
    let rs = c.args.rows.now in
    let ss = c.args.sections.now in
    c.rows.invariant ∙ zip_all (all.rows_of rs) (sections_of ss) c.rows.index (omega (arith, length-map rs all.row_of, length-map ss steps_in))
