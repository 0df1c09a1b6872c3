-- The files that give lines, by their names, and the directory of a name.
use Rattle.std.proofs.Common.{◌≡◌, ℕ, ◌+◌, ◌-◌, ◌<◌, ◌≤◌, Bool, true, false, not, cond, List, [], ◌∷◌, ◌++◌, length, get_or, take, Option, Some, None, arith, refl, sym, ap, ◌∙◌}
use Rattle.std.specs.Prelude.{nat_lt, slice_range, if◌then◌else◌}
use Rattle.std.proofs.lemmas.Grind.{common_steps}
use Rattle.std.specs.Global.{Global}
use Rattle.std.specs.List.{list_any, position, position_or_len, suffix_len}
use Rattle.std.specs.Str.{bytes_eq}
use Rattle.std.specs.String.{string_bytes}
use Rattle.std.specs.declared.string.String.{String}
use Rattle.std.proofs.lemmas.List.{length-map, map_push}
use Rattle.std.proofs.lemmas.List.Sums.{prefix_len-le-length, suffix_len_is}
use Rattle.std.proofs.lemmas.Bool.Decides.{nat_tests}
use Rattle.sl_preproc.specs.Works.{names_of}
use Rattle.sl_preproc.specs.Expansion.{entered}
use Rattle.sl_preproc.specs.Naming.{is_no_slash, directory}

step : (b : Bool) (m n : ℕ) → m ≡ n → cond b (1 + m) 0 ≡ cond b (1 + n) 0
step true m n h = ap (λ (k : ℕ). 1 + k) h
step false m n h = refl

index_names : (name : List ℕ) (fs : List (String Global)) → position_or_len (bytes_eq name) (names_of fs) ≡ position_or_len (λ f. bytes_eq name (string_bytes f)) fs
index_names name [] = refl
index_names name (f ∷ fs) = step (not (bytes_eq name (string_bytes f))) _ _ (index_names name fs)

chosen_new : (n m : ℕ) (xs ys : List (List ℕ)) → n ≡ m → ys ≡ cond (nat_lt n m) xs ys
chosen_new n m xs ys h = grind (arith, nat_tests)

chosen_old : (n m : ℕ) (xs ys : List (List ℕ)) → (n ≡ m → ⊥) → n ≤ m → xs ≡ cond (nat_lt n m) xs ys
chosen_old n m xs ys h le = grind (arith, nat_tests)

module _ (name : List ℕ) (fs : List (String Global)) (n : ℕ) (here : n ≡ position_or_len (λ f. bytes_eq name (string_bytes f)) fs) where
  pub number_is : n ≡ position_or_len (bytes_eq name) (names_of fs)
  number_is = here ∙ sym (index_names name fs)

  count : length (names_of fs) ≡ length fs
  count = length-map fs string_bytes

  pub enters_new : (added : String Global) → string_bytes added ≡ name → n ≡ length fs → names_of (fs ++ added ∷ []) ≡ entered name (names_of fs)
  enters_new added e h =
      map_push string_bytes fs added ∙ ap (λ (b : List ℕ). names_of fs ++ b ∷ []) e
      ∙ chosen_new (position_or_len (bytes_eq name) (names_of fs)) (length (names_of fs)) (names_of fs) (names_of fs ++ name ∷ []) (sym number_is ∙ h ∙ sym count)

  pub enters_old : (n ≡ length fs → ⊥) → names_of fs ≡ entered name (names_of fs)
  enters_old h =
      let le : position_or_len (bytes_eq name) (names_of fs) ≤ length (names_of fs) = prefix_len-le-length (λ f. not (bytes_eq name f)) (names_of fs) in
      chosen_old (position_or_len (bytes_eq name) (names_of fs)) (length (names_of fs)) (names_of fs) (names_of fs ++ name ∷ []) (λ e. h (number_is ∙ e ∙ count)) le

abbrev is_named : List ℕ → String Global → Bool
is_named name f = bytes_eq name (string_bytes f)

found_at : (p len i : ℕ) (within : Bool) → nat_lt p len ≡ within → (let o : Option ℕ = cond within (Some p) None in o) ≡ Some i → (i ≡ p) × (i < len)
found_at p len i true h e = let same : p ≡ i = cc in let lt : p < len = grind (arith, nat_tests) in (sym same, omega arith)
found_at p len i false h e = absurd (cc)

found_nowhere : (p len : ℕ) (within : Bool) → nat_lt p len ≡ within → p ≤ len → (let o : Option ℕ = cond within (Some p) None in o) ≡ None → p ≡ len
found_nowhere p len true h le e = absurd (cc)
found_nowhere p len false h le e = let ge : len ≤ p = grind (arith, nat_tests) in omega arith

-- a name that is among the files
pub old_number : (name : List ℕ) (fs : List (String Global)) (i : ℕ) → position (is_named name) fs ≡ Some i
    → (i ≡ position_or_len (bytes_eq name) (names_of fs)) × (names_of fs ≡ entered name (names_of fs))
old_number name fs i h =
    let at = found_at (position_or_len (is_named name) fs) (length fs) i (nat_lt (position_or_len (is_named name) fs) (length fs)) refl h in
    (number_is name fs i at.0, enters_old name fs i at.0 (λ e. absurd (let lt : i < length fs = at.1 in omega arith)))

pub pushed : (name : List ℕ) (fs after : List (String Global)) (added : String Global) → string_bytes added ≡ name → false ≡ list_any (is_named name) fs
    → after ≡ (if list_any (is_named (string_bytes added)) fs then fs else fs ++ added ∷ []) → after ≡ fs ++ added ∷ []
pushed name fs after added e none h =
    h ∙ ap (λ (b : Bool). if b then fs else fs ++ added ∷ []) (ap (λ (n : List ℕ). list_any (is_named n) fs) e ∙ sym none)

-- a name that is new
pub new_number : (name : List ℕ) (fs after : List (String Global)) (count : ℕ) (added : String Global) → position (is_named name) fs ≡ None → count ≡ length fs → string_bytes added ≡ name
    → after ≡ fs ++ added ∷ [] → (count ≡ position_or_len (bytes_eq name) (names_of fs)) × (names_of after ≡ entered name (names_of fs))
new_number name fs after count added h all e f =
    let end : position_or_len (is_named name) fs ≡ length fs =
    found_nowhere (position_or_len (is_named name) fs) (length fs) (nat_lt (position_or_len (is_named name) fs) (length fs)) refl (prefix_len-le-length (λ f. not (is_named name f)) fs) h in
    let here : count ≡ position_or_len (is_named name) fs = all ∙ sym end in
    (number_is name fs count here, ap names_of f ∙ enters_new name fs count here added e all)

no_slash : (b : ℕ) → (b ≡ 47 → ⊥) → is_no_slash b ≡ true
no_slash b h = grind (arith, nat_tests)

slash : (b : ℕ) → b ≡ 47 → is_no_slash b ≡ false
slash b h = ap is_no_slash h

pub directory_none : (name : List ℕ) → ((i : ℕ) → i < length name → get_or name i 0 ≡ 47 → ⊥) → [] ≡ directory name
directory_none name h =
    let e : suffix_len is_no_slash name ≡ length name - 0 = suffix_len_is is_no_slash name 0 0 (omega arith) (λ k _ lt. no_slash _ (h k lt)) (λ l. absurd (omega arith)) in
    let k : length name - suffix_len is_no_slash name ≡ 0 = omega arith in
    rw k refl

pub directory_some : (name : List ℕ) (at : ℕ) → at < length name → get_or name at 0 ≡ 47 → ((i : ℕ) → at < i → i < length name → get_or name i 0 ≡ 47 → ⊥)
    → take (at + 1) name ≡ directory name
directory_some name at lt here h =
    let back : (at + 1) - 1 ≡ at = omega arith in
    let stops : is_no_slash (get_or name ((at + 1) - 1) 0) ≡ false = rw back (slash _ here) in
    let e : suffix_len is_no_slash name ≡ length name - (at + 1) = suffix_len_is is_no_slash name (at + 1) 0 (omega arith) (λ k le l. no_slash _ (h k (omega arith) l)) (λ _. stops) in
    let k : at + 1 ≡ length name - suffix_len is_no_slash name = omega arith in
    ap (λ (n : ℕ). take n name) k

pub front_range : (name : List ℕ) (n : ℕ) → slice_range name 0 n ≡ take n name
front_range name n = grind (arith, common_steps)
