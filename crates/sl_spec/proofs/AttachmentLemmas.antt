-- The index of what is attached to a field, behind which something is added.
use Rattle.std.proofs.Common.{◌≡◌, Bor, subst, option_copied, ℕ, ◌+◌, ◌<◌, ◌≤◌, Bool, true, false, cond, ◌||◌, List, [], ◌∷◌, ◌++◌, length, Option, Some, None, is_some, find, position, slice_get, get_or, nat_eq, refl, sym, ap, ◌∙◌, arith, length-append}
use Rattle.std.specs.Prelude.{not, nat_lt}
use Rattle.std.specs.List.{list_any, position_or_len}
use Rattle.std.proofs.lemmas.Bool.{eq-eqb, eqb-true}
use Rattle.std.proofs.lemmas.List.{get_or-set_same, get_or-set_other}
use Rattle.std.proofs.lemmas.List.Folds.{find_at, position_or_len_push}
use Rattle.std.proofs.lemmas.List.Sums.{prefix_len-le-length}
use Rattle.std.proofs.lemmas.Option.{slice_get_past}
use lib.ListN.{set}
use Rattle.sl_spec.specs.Attachments.{index_attached, is_attached}
use Rattle.sl_spec.specs.Tables.{Attached}

-- ---- the first that passes a test

module _ {X : Type 0} (p : X → Bool) where
  right : (a b : Bool) → (a || b) ≡ false → b ≡ false
  right true b h = absurd (cc)
  right false b h = h

  left : (a b : Bool) → (a || b) ≡ false → a ≡ false
  left true b h = absurd (cc)
  left false b h = refl

  -- a new one that passes behind others that don't
  new_first : (xs : List X) (y : X) → list_any p xs ≡ false → p y ≡ true → position_or_len p (xs ++ y ∷ []) ≡ length xs
  new_first [] y none passes = ap (λ b. cond (not b) 1 0) passes
  new_first (x ∷ xs) y none passes =
      ap (λ b. cond (not b) (1 + position_or_len p (xs ++ y ∷ [])) 0) (left (p x) (list_any p xs) none)
      ∙ omega (arith, new_first xs y (right (p x) (list_any p xs) none) passes)

  pub new_position : (xs : List X) (y : X) → list_any p xs ≡ false → p y ≡ true → position p (xs ++ y ∷ []) ≡ Some (length xs)
  new_position xs y none passes =
      let more : nat_lt (length xs) (length (xs ++ y ∷ [])) ≡ true = grind (arith, length-append xs (y ∷ [])) in
      rw (new_first xs y none passes, more) refl

  by_numbers : (n len : ℕ) (same : Bool) → n ≤ len → nat_eq n len ≡ same
      → cond (nat_lt (cond same (len + 1) n) (len + 1)) (Some (cond same (len + 1) n)) None ≡ cond (nat_lt n len) (Some n) None
  by_numbers n len true le is =
      let a : nat_lt (len + 1) (len + 1) ≡ false = grind arith in
      let b : nat_lt n len ≡ false = grind (arith, eqb-true n len is) in
      rw (a, b) refl
  by_numbers n len false le is =
      let a : nat_lt n (len + 1) ≡ true = grind arith in
      let b : nat_lt n len ≡ true = grind (arith, is) in
      rw (a, b) refl

  -- one that doesn't pass behind the others
  pub same_position : (xs : List X) (y : X) → p y ≡ false → position p (xs ++ y ∷ []) ≡ position p xs
  same_position xs y fails =
      let le : position_or_len p xs ≤ length xs = prefix_len-le-length (λ x. not (p x)) xs in
      let len : length (xs ++ y ∷ []) ≡ length xs + 1 = length-append xs (y ∷ []) in
      let at : position_or_len p (xs ++ y ∷ []) ≡ cond (nat_eq (position_or_len p xs) (length xs)) (length xs + 1) (position_or_len p xs) =
      position_or_len_push p xs y ∙ ap (λ b. cond (nat_eq (position_or_len p xs) (length xs)) (length xs + cond b 0 1) (position_or_len p xs)) fails in
      rw (at, len) (by_numbers (position_or_len p xs) (length xs) _ le refl)

  found_by : (n i : ℕ) (less : Bool) → cond less (Some n) None ≡ Some i → n ≡ i
  found_by n i true is = cc
  found_by n i false is = absurd (cc)

  pub found : (xs : List X) (i : ℕ) → position p xs ≡ Some i → slice_get xs i ≡ find p xs
  found xs i is =
      ap (slice_get xs) (sym (found_by (position_or_len p xs) i (nat_lt (position_or_len p xs) (length xs)) is)) ∙ sym (find_at p xs)

  missing_by : (n len : ℕ) (less : Bool) → nat_lt n len ≡ less → ◌≡◌ {A = Option ℕ} (cond less (Some n) None) None → len ≤ n
  missing_by n len true eq is = absurd (cc)
  missing_by n len false eq is = grind (arith, eq)

  pub missing : (xs : List X) → position p xs ≡ None → None ≡ find p xs
  missing xs is =
      sym (find_at p xs ∙ slice_get_past xs (position_or_len p xs) (missing_by (position_or_len p xs) (length xs) _ refl is))

  some_by : (x : X) (o : Option X) (b rest : Bool) → is_some o ≡ rest → is_some (cond b (Some x) o) ≡ (b || rest)
  some_by x o true rest h = refl
  some_by x o false rest h = h

  pub some_found : (xs : List X) → is_some (find p xs) ≡ list_any p xs
  some_found [] = refl
  some_found (x ∷ xs) = some_by x (find p xs) (p x) (list_any p xs) (some_found xs)

pub copied_some : {X : Type 0} (o : Option (Bor X)) → is_some o ≡ is_some (option_copied o)
copied_some None = refl
copied_some (Some x) = refl

-- ---- one more attachment

module _ (places : List (Option ℕ)) (all : List Attached) (added : Attached) (known : (f : ℕ) → get_or places f None ≡ index_attached f all)
    (fresh : is_attached added.field all ≡ false) (room : added.field < length places) where
  noted_by : (f : ℕ) (same : Bool) → nat_eq f added.field ≡ same → get_or (set places added.field (Some (length all))) f None ≡ index_attached f (all ++ added ∷ [])
  noted_by f true is =
      let e : f ≡ added.field = eqb-true f added.field is in
      ap (λ g. get_or (set places added.field (Some (length all))) g None) e
      ∙ get_or-set_same places added.field (Some (length all)) None room
      ∙ sym (new_position (λ a. nat_eq f a.field) all added (ap (λ g. is_attached g all) e ∙ fresh) is)
  noted_by f false is =
      get_or-set_other places added.field f (Some (length all)) None (λ e. let clash : true ≡ false = sym (eq-eqb f added.field e) ∙ is in cc)
      ∙ known f ∙ sym (same_position (λ a. nat_eq f a.field) all added is)

  -- it has its index, and the others keep theirs
  pub noted : (f : ℕ) → get_or (set places added.field (Some (length all))) f None ≡ index_attached f (all ++ added ∷ [])
  noted f = noted_by f (nat_eq f added.field) refl

-- the same of numbers that are equal to them
pub noted_as : (places : List (Option ℕ)) (all after : List Attached) (added : Attached) (number index : ℕ) → number ≡ added.field → index ≡ length all
    → after ≡ all ++ added ∷ [] → ((f : ℕ) → get_or places f None ≡ index_attached f all) → is_attached added.field all ≡ false → number < length places
    → (f : ℕ) → get_or (set places number (Some index)) f None ≡ index_attached f after
noted_as places all after added number index n i a known fresh room f =
    rw (n, i, a) (noted places all added known fresh (subst (λ (k : ℕ). k < length places) n room) f)
