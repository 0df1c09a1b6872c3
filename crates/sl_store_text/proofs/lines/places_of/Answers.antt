use Rattle.std.proofs.Common.{◌-◌, List, ℕ, length, get_or, refl, sym, ap, ◌∙◌}
use Rattle.std.specs.Prelude.{min, slice_get}
use Rattle.sl_lex.specs.Views.{views}
use Rattle.sl_preproc.specs.Expanded.{line_index, or_no_place, seen}
use Rattle.sl_preproc.specs.declared.places.Place.{Place}
use Rattle.sl_store_text.specs.PackedForm.{start_of}
use Rattle.sl_store_text.proofs.LineLemmas.{all_found, finds, none_found}
use Rattle.sl_store_text.proofs.lines.places_of.Goals as goal

pub firsts-init : goal.firsts-init
firsts-init c = none_found (seen c.args.text.now) (views c.args.tokens.now) c.args.firsts.now c.in_ok-places.places.items c.in_ok-places.ensures.items

pub line_of-line-requires : goal.line_of-line-requires
line_of-line-requires c = c.firsts.invariant.line_is ∙ ap (λ (bytes : List ℕ). line_index bytes c.firsts.from) (sym c.as_slice-bytes.ensures.value)

pub firsts-preserved : goal.firsts-preserved
firsts-preserved c =
    let tokens = views c.args.tokens.now in
    let first = get_or c.args.firsts.now c.firsts.first-index 0 in
    let start = c.start_of-start.result in
    let next = c.line_of-line.result in
    let bytes = c.as_slice-bytes.ensures.value in
    finds (seen c.args.text.now) tokens c.args.firsts.now c.firsts.first-index c.firsts.from c.firsts.line first start next
    c.firsts.places.items c.push.new.self.items c.place_of_line.result c.firsts-test.true refl
    (c.start_of-start.ensures ∙ ap (λ (bs : List ℕ). start_of tokens first (length bs)) bytes)
    (c.line_of-line.ensures ∙ ap (λ (bs : List ℕ). line_index bs start) bytes)
    (c.place_of_line.ensures.place ∙ ap (λ (ps : List Place). or_no_place (slice_get ps (min next (length ps - 1)))) c.as_slice-lines.ensures.value)
    c.place_of_line.ensures.line c.in_ok-push.ensures.items c.firsts.invariant

pub returns-clause-are : goal.returns-clause-are
returns-clause-are c =
    all_found (seen c.args.text.now) (views c.args.tokens.now) c.args.firsts.now c.firsts.first-index c.firsts.from c.firsts.line c.firsts.places.items
    c.firsts-test.false c.firsts.invariant

pub returns-clause-lines : goal.returns-clause-lines
returns-clause-lines c = c.firsts.invariant.lines
