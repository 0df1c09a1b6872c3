-- What was read from a text may be packed.
use Rattle.std.proofs.Common.{◌≡◌, ℕ, zero, suc, ◌+◌, ◌<◌, ◌≤◌, List, [], ◌∷◌, length, length-append, map, slice_get, refl, ap, ◌∙◌, arith}
use Rattle.std.specs.Global.{Global}
use Rattle.std.specs.List.{AllByRecursion}
use Rattle.std.specs.String.{string_bytes}
use Rattle.std.specs.declared.string.String.{String}
use Rattle.std.proofs.lemmas.List.{length-map}
use Rattle.std.proofs.lemmas.Str.{IsUtf8-string_bytes}
use Rattle.sl_ast.specs.Spelling.{spell_constructor, spell_item}
use Rattle.sl_ast.specs.Trees.{Inside, nothing, constructor_then, block_then, Item, define, attach_list, attach_one, macro, constructor, block}
use Rattle.sl_ast.specs.Unfolding.{firsts, firsts_from, firsts_inside, size_of_head}
use Rattle.sl_ast.specs.Validity.{Each}
use Rattle.sl_ast.specs.Views.{items_of}
use Rattle.sl_ast.specs.declared.items.Spec.{Spec}
use Rattle.sl_lex.specs.Reading.{Token}
use Rattle.sl_preproc.specs.Expanded.{Text, no_place, or_no_place, place_at, seen}
use Rattle.sl_preproc.specs.Sound.{IsSound}
use Rattle.sl_preproc.specs.declared.places.Place.{Place}
use Rattle.sl_preproc.specs.declared.text.Expanded.{Expanded}
use Rattle.sl_store_bytes.specs.Numbers.{greatest}
use Rattle.sl_store_format.specs.Items.{IsPlace, greatest_line}
use Rattle.sl_store_format.specs.Packed.{IsFileName, IsPacked, inside_count, items_count}
use Rattle.sl_store_spelling.proofs.ModeLaws.{read_items}
use Rattle.sl_store_text.specs.Lines.{HasLine}
use Rattle.sl_store_text.specs.PackedForm.{packed_form, place_of_first}
use Rattle.sl_store_text.specs.Parsed.{IsParsed}

-- ---- as many first tokens as items

many_inside : (at : ℕ) (inside : Inside) → length (firsts_inside at inside) ≡ inside_count inside
many_inside at nothing = refl
many_inside at (constructor_then c more) = ap suc (many_inside (at + length (spell_constructor c [])) more)
many_inside at (block_then h inside more) =
    let own = firsts_inside (at + size_of_head h) inside in
    let later = firsts_inside (at + length (spell_item (block h inside) [])) more in
    ap suc (length-append own later ∙ ap (λ (n : ℕ). n + length later) (many_inside (at + size_of_head h) inside)
    ∙ ap (λ (n : ℕ). inside_count inside + n) (many_inside (at + length (spell_item (block h inside) [])) more))

one_more : (m n : ℕ) → m ≡ n → suc m ≡ 1 + n
one_more m n same = omega (arith, same)

many_from : (at : ℕ) (items : List Item) → length (firsts_from at items) ≡ items_count items
many_from at [] = refl
many_from at (define d ∷ items) = one_more _ _ (many_from (at + length (spell_item (define d) [])) items)
many_from at (attach_list kind names members ∷ items) = one_more _ _ (many_from (at + length (spell_item (attach_list kind names members) [])) items)
many_from at (attach_one kind names member ∷ items) = one_more _ _ (many_from (at + length (spell_item (attach_one kind names member) [])) items)
many_from at (macro d ∷ items) = one_more _ _ (many_from (at + length (spell_item (macro d) [])) items)
many_from at (constructor c ∷ items) = one_more _ _ (many_from (at + length (spell_item (constructor c) [])) items)
many_from at (block h inside ∷ items) =
    let own = firsts_inside (at + size_of_head h) inside in
    let later = firsts_from (at + length (spell_item (block h inside) [])) items in
    let within = many_inside (at + size_of_head h) inside in
    let others = many_from (at + length (spell_item (block h inside) [])) items in
    omega (arith, length-append own later, within, others)

-- ---- each place is in one of the files

or_here : (P : Place → Type 0) (ps : List Place) (i : ℕ) → P no_place → AllByRecursion P ps → P (or_no_place (slice_get ps i))
or_here P [] i none each = none
or_here P (p ∷ ps) zero none each = each.0
or_here P (p ∷ ps) (suc i) none each = or_here P ps i none each.1

file_known : (text : Text) (byte : ℕ) → IsSound text → (place_at text byte).file < length text.files
unfolding place_at
file_known text byte sound = or_here (λ (p : Place). p.file < length text.files) text.places _ sound.some sound.known

each_place : (text : Text) (tokens : List Token) → IsSound text → (indexes : List ℕ) → Each HasLine (map (place_of_first text tokens) indexes)
    → Each (IsPlace (length text.files)) (map (place_of_first text tokens) indexes)
each_place text tokens sound [] lines = tt
each_place text tokens sound (index ∷ indexes) lines =
    (record { file = file_known text _ sound; line = lines.0 }, each_place text tokens sound indexes lines.1)

-- ---- the names are those of strings

each_name : (files : List (String Global)) → Each IsFileName (map string_bytes files)
each_name [] = tt
each_name (file ∷ files) =
    let small = file.bytes.small in
    let long = file.bytes.ok in
    ((IsUtf8-string_bytes file, omega (arith, small, long.0, long.1)), each_name files)

-- ---- all together

pub may_be_packed : (e : Expanded) (tokens : List Token) (spec : Spec) → length e.files.items ≤ greatest_line
    → Each HasLine (map (place_of_first (seen e) tokens) (firsts (items_of spec))) → IsParsed (seen e) tokens spec
    → IsPacked (packed_form (seen e) tokens (items_of spec))
may_be_packed e tokens spec few lines parsed =
    let text = seen e in
    let items = items_of spec in
    let low : length text.bytes ≤ greatest = let small = parsed.sound.small in omega (arith, small) in
    let leaves = read_items text.bytes tokens items parsed.reads low parsed.spelled parsed.no_fault in
    record {
      few = omega (arith, few, length-map e.files.items string_bytes);
      names = each_name e.files.items;
      many = leaves.0;
      no_fault = parsed.no_fault;
      leaves = leaves.1;
      as_many = length-map (firsts items) (place_of_first text tokens) ∙ many_from 0 items;
      places = each_place text tokens parsed.sound (firsts items) lines;
    }
