use Rattle.std.proofs.Common.{◌≡◌, ◌≤◌, List, length, map, ap, subst, ◌∙◌, arith}
use Rattle.std.specs.Global.{Global}
use Rattle.std.specs.Prelude.{IfOk}
use Rattle.std.specs.declared.string.String.{String}
use Rattle.sl_ast.specs.Unfolding.{firsts}
use Rattle.sl_ast.specs.Validity.{Each}
use Rattle.sl_ast.specs.Views.{items_of}
use Rattle.sl_ast.specs.declared.items.Item.{Item}
use Rattle.sl_lex.specs.Views.{views}
use Rattle.sl_preproc.specs.Expanded.{seen}
use Rattle.sl_preproc.specs.declared.places.Place.{Place}
use Rattle.sl_store_format.specs.Items.{greatest_line}
use Rattle.sl_store_format.specs.Packed.{IsPacked, Packed}
use Rattle.sl_store_text.specs.Lines.{HasLine}
use Rattle.sl_store_text.specs.PackedForm.{packed_form, place_of_first}
use Rattle.sl_store_text.proofs.FormLemmas.{may_be_packed}
use Rattle.sl_store_write.specs.Packs.{IsFileOf}
use Rattle.sl_store_write.specs.Parts.{parts_of}
use Rattle.sl_store_text.proofs.text.pack_text.Goals as goal

pub returns : goal.returns
returns c = λ parsed.
    (let e = c.args.text.now in
    let tokens = views c.args.tokens.now in
    let items = items_of c.args.spec.now in
    let f = place_of_first (seen e) tokens in
    let names = c.as_slice-files.ensures.value in
    let parts = c.as_slice-2.ensures.value in
    let placed : c.in_ok-places.places.items ≡ map f (firsts items) = c.in_ok-places.ensures.are ∙ ap (map f) parsed.indexes in
    let lines : Each HasLine (map f (firsts items)) = subst (Each HasLine) placed c.in_ok-places.ensures.lines in
    let few : length e.files.items ≤ greatest_line = omega (arith, ap (λ (fs : List (String Global)). length fs) names, c.if-files-gt-MOST_FILES.false) in
    let same : parts_of c.as_slice-files.result.now c.as_slice.result.now c.as_slice-2.result.now ≡ packed_form (seen e) tokens items =
    ap (λ (fs : List (String Global)). parts_of fs c.as_slice.result.now c.as_slice-2.result.now) names
    ∙ ap (λ (is : List Item). parts_of e.files.items c.as_slice.result.now is) parts
    ∙ ap (λ (ps : List Place). parts_of e.files.items ps c.args.spec.now.items.items) (c.as_slice.ensures.value ∙ placed) in
    subst (λ (p : Packed). IsPacked p → IfOk c.pack_parts.result (λ v. IsFileOf p v.items)) same c.pack_parts.ensures (may_be_packed e tokens c.args.spec.now few lines parsed))
