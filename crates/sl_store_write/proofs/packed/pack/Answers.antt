use Rattle.std.proofs.Common.{◌≡◌, List, ap, subst, ◌∙◌}
use Rattle.std.specs.Global.{Global}
use Rattle.std.specs.Prelude.{IfOk}
use Rattle.std.specs.declared.string.String.{String}
use Rattle.sl_ast.specs.declared.items.Item.{Item}
use Rattle.sl_store_write.specs.Packs.{IsFileOf}
use Rattle.sl_store_write.specs.Parts.{packed_of, parts_of}
use Rattle.sl_store_format.specs.Packed.{IsPacked, Packed}
use Rattle.sl_preproc.specs.declared.places.Place.{Place}
use Rattle.sl_store_write.proofs.packed.pack.Goals as goal

-- the parts that are lent are those of the specification
pub returns : goal.returns
returns c =
    let packed = c.args.packed.now in
    let files = c.as_slice-files.ensures.value in
    let places = c.as_slice-places.ensures.value in
    let items = c.as_slice.ensures.value in
    let same : parts_of c.as_slice-files.result.now c.as_slice-places.result.now c.as_slice.result.now ≡ packed_of packed =
    ap (λ (fs : List (String Global)). parts_of fs c.as_slice-places.result.now c.as_slice.result.now) files
    ∙ ap (λ (ps : List Place). parts_of packed.files.items ps c.as_slice.result.now) places
    ∙ ap (λ (is : List Item). parts_of packed.files.items packed.places.items is) items in
    subst (λ (p : Packed). IsPacked p → IfOk c.pack_parts.result (λ v. IsFileOf p v.items)) same c.pack_parts.ensures
