-- Strings of the names of a text.
use Rattle.std.proofs.Common.{◌≡◌, ℕ, suc, ◌^◌, ◌<◌, ◌≤◌, List, [], ◌∷◌, map, length, slice_get, Some, Ok, refl, sym, ap, ◌∙◌, arith}
use denote.RawPtr.{null_ptr}
use Rattle.std.proofs.lemmas.List.{length-map}
use Rattle.std.specs.Global.{Global, Vec}
use Rattle.std.specs.Prelude.{string_bytes}
use Rattle.std.specs.declared.string.String.{String}
use Rattle.sl_ast.specs.Trees.{Item}
use Rattle.sl_bind.specs.Verdict.{taken}
use Rattle.sl_faithful_places.proofs.CountLemmas.{taken_are_few}
use Rattle.sl_faithful_places.proofs.PlaceLemmas.{taken_are_defined}
use Rattle.sl_faithful_places.proofs.TextLemmas.{taken_are_texts}
use Rattle.sl_faithful_places.specs.Laws.{IsText, NamesAreTexts}
use Rattle.sl_faithful_accepted.specs.Laws.{IsShort}
use Rattle.sl_pcode.specs.declared.print.Names.{Names}
use Rattle.sl_list_pcode.specs.Names.{AreNames}
use Rattle.sl_spec_rules.specs.Names.{Name}
use Rattle.sl_spec.specs.Tables.{Space, UserOp}
use Rattle.sl_spec.specs.declared.tables.Tables.{Tables}
use Rattle.sl_word.specs.Sizes.{byte_counts}
use Rattle.sl_word.specs.declared.word.AddressSize.{AddressSize}

same : (n : ℕ) → n ≤ n
same n = omega arith

abbrev heap : Global
heap = record { memory = record { seal = tt } }

-- a vector of these members
abbrev vec_of : {X : Type 0} (xs : List X) → length xs < 2 ^ 63 → Vec X
vec_of xs small = record {
  ptr = null_ptr;
  len = length xs;
  cap = length xs;
  alloc = heap;
  items = xs;
  ok = (refl, same (length xs));
  small = small;
}

string_of : (w : Name) → IsText w → (text : String Global) × (string_bytes text ≡ w)
string_of w is = (record { bytes = vec_of w is.1; ok = ∣ is.0 ∣₁ }, refl)

-- a string of each name
strings : {X : Type 0} (name_of : X → Name) (xs : List X)
    → ((k : ℕ) (x : X) → slice_get xs k ≡ Some x → IsText (name_of x))
    → (texts : List (String Global)) × (map string_bytes texts ≡ map name_of xs)
strings name_of [] each = ([], refl)
strings name_of (x ∷ xs) each =
    let own = string_of (name_of x) (each 0 x refl) in
    let rest = strings name_of xs (λ k. each (suc k)) in (
      own.0 ∷ rest.0,
      ap (λ (w : Name). w ∷ map string_bytes rest.0) own.1 ∙ ap (λ (names : List Name). name_of x ∷ names) rest.1,
    )

sizes_of : (zs : List Space) → ((k : ℕ) (z : Space) → slice_get zs k ≡ Some z → (1 ≤ z.size) × (z.size ≤ 8))
    → (sizes : List AddressSize) × (byte_counts sizes ≡ map (λ z. z.size) zs)
sizes_of [] each = ([], refl)
sizes_of (z ∷ zs) each =
    let own = each 0 z refl in
    let rest = sizes_of zs (λ k. each (suc k)) in (
      record { bytes = z.size; some = own.0; at_most_8 = own.1 } ∷ rest.0,
      ap (λ (counts : List ℕ). z.size ∷ counts) rest.1,
    )

-- lists whose members are seen alike are as long
as_long : {X Y Z : Type 0} (f : X → Z) (g : Y → Z) (xs : List X) (ys : List Y) → map f xs ≡ map g ys
    → length xs ≡ length ys
as_long f g xs ys alike = sym (length-map xs f) ∙ ap length alike ∙ length-map ys g

-- there are names to print with
pub some_names : (items : List Item) (t : Tables) → taken items ≡ Ok t → IsShort items → NamesAreTexts items
    → (names : Names) × AreNames t names
some_names items t is short texts =
    let few = taken_are_few items t is in
    let are = taken_are_texts items t is texts in
    let spaces = strings (λ (z : Space). z.name) t.spaces are.spaces in
    let sizes = sizes_of t.spaces (taken_are_defined items t is).spaces in
    let userops = strings (λ (u : UserOp). u.name) t.userops are.userops in
    let spaces_small : length spaces.0 < 2 ^ 63 =
    omega (arith, as_long string_bytes (λ (z : Space). z.name) spaces.0 t.spaces spaces.1, few.0, short) in
    let sizes_small : length sizes.0 < 2 ^ 63 =
    let long = as_long (λ (n : AddressSize). n.bytes) (λ (z : Space). z.size) sizes.0 t.spaces sizes.1 in
    omega (arith, long, few.0, short) in
    let userops_small : length userops.0 < 2 ^ 63 =
    omega (arith, as_long string_bytes (λ (u : UserOp). u.name) userops.0 t.userops userops.1, few.1, short) in (
      record {
        spaces = vec_of spaces.0 spaces_small;
        sizes = vec_of sizes.0 sizes_small;
        userops = vec_of userops.0 userops_small;
      },
      record { spaces = spaces.1; sizes = sizes.1; userops = userops.1 },
    )
