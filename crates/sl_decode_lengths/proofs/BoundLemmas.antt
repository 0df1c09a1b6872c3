-- Numbers within bounds, and lists of them.
use Rattle.std.proofs.Common.{◌≡◌, ℕ, zero, suc, ◌+◌, ◌≤◌, max, min, Bool, true, false, cond, List, [], ◌∷◌, ◌++◌, length, map, drop, Some, None, refl, sym, ap, subst, ◌∙◌, arith}
use Rattle.std.specs.Prelude.{find, nat_lt, not, option_and_then, position, slice_get, slice_index}
use Rattle.std.specs.List.{Contains, position_or_len, zip}
use Rattle.std.proofs.lemmas.Bool.Decides.{nat_tests}
use Rattle.std.proofs.lemmas.Option.{same_Some, slice_get_past}
use Rattle.sl_spec_tables.specs.Lengths.{greatest, least, put_together}

-- The number is from the first to the last.
abbrev pub Between : ℕ → ℕ → ℕ → Type 0
Between low n high = (low ≤ n) × (n ≤ high)

pub itself : (n : ℕ) → Between n n n
itself n = (omega arith, omega arith)

-- ---- the least and the greatest number of a list

min_first : (m : ℕ) (ns : List ℕ) → put_together min m ns ≤ m
min_first m [] = omega arith
min_first m (n ∷ ns) = let e = min_first (min m n) ns in omega arith

max_first : (m : ℕ) (ns : List ℕ) → m ≤ put_together max m ns
max_first m [] = omega arith
max_first m (n ∷ ns) = let e = max_first (max m n) ns in omega arith

module _ {X : Type 0} (h : X → ℕ) (x : X) where
  min_member : (m : ℕ) (xs : List X) → Contains xs x → put_together min m (map h xs) ≤ h x
  min_member m [] c = absurd (omega (arith, c.1))
  min_member m (y ∷ ys) (zero, below, here) =
      let e = min_first (min m (h y)) (map h ys) in
      let s : h y ≡ h x = ap h here in
      omega arith
  min_member m (y ∷ ys) (suc k, below, here) = min_member (min m (h y)) ys (k, omega (arith, below), here)

  max_member : (m : ℕ) (xs : List X) → Contains xs x → h x ≤ put_together max m (map h xs)
  max_member m [] c = absurd (omega (arith, c.1))
  max_member m (y ∷ ys) (zero, below, here) =
      let e = max_first (max m (h y)) (map h ys) in
      let s : h y ≡ h x = ap h here in
      omega arith
  max_member m (y ∷ ys) (suc k, below, here) = max_member (max m (h y)) ys (k, omega (arith, below), here)

  pub least_member : (xs : List X) → Contains xs x → least (map h xs) ≤ h x
  least_member [] c = absurd (omega (arith, c.1))
  least_member (y ∷ ys) (zero, below, here) =
      let e = min_first (h y) (map h ys) in
      let s : h y ≡ h x = ap h here in
      omega arith
  least_member (y ∷ ys) (suc k, below, here) = min_member (h y) ys (k, omega (arith, below), here)

  pub greatest_member : (xs : List X) → Contains xs x → h x ≤ greatest (map h xs)
  greatest_member xs c = max_member 0 xs c

-- ---- lists side by side

-- Each number is within the bounds of the table beside it.
abbrev pub AreWithin : {X : Type 0} → (X → ℕ) → (ℕ → ℕ) → (ℕ → ℕ) → List X → List ℕ → Type 0
AreWithin table f g [] [] = Unit {0}
AreWithin table f g [] (n ∷ ns) = ⊥
AreWithin table f g (x ∷ xs) [] = ⊥
AreWithin table f g (x ∷ xs) (n ∷ ns) = Between (f (table x)) n (g (table x)) × AreWithin table f g xs ns

module _ (f g : ℕ → ℕ) where
  pub within_map : {X Y : Type 0} (table : Y → ℕ) (view : X → Y) (xs : List X) (ns : List ℕ) → AreWithin table f g (map view xs) ns → AreWithin (λ x. table (view x)) f g xs ns
  within_map table view [] [] h = h
  within_map table view [] (n ∷ ns) h = h
  within_map table view (x ∷ xs) [] h = h
  within_map table view (x ∷ xs) (n ∷ ns) h = (h.0, within_map table view xs ns h.1)

  -- one more
  pub within_more : {X : Type 0} (table : X → ℕ) (xs : List X) (ns : List ℕ) (x : X) (n : ℕ) → Between (f (table x)) n (g (table x))
      → AreWithin table f g xs ns → AreWithin table f g (xs ++ x ∷ []) (ns ++ n ∷ [])
  within_more table [] [] x n fits h = (fits, tt)
  within_more table [] (m ∷ ns) x n fits h = absurd h
  within_more table (y ∷ xs) [] x n fits h = absurd h
  within_more table (y ∷ xs) (m ∷ ns) x n fits h = (h.0, within_more table xs ns x n fits h.1)

  -- the first of those from a number on, and the others
  pub within_first : {X : Type 0} (table : X → ℕ) (x : X) (xs : List X) (ns : List ℕ) (k : ℕ) → AreWithin table f g (x ∷ xs) (drop k ns)
      → Between (f (table x)) (slice_index ns k) (g (table x)) × AreWithin table f g xs (drop (k + 1) ns)
  within_first table x xs [] zero h = absurd h
  within_first table x xs [] (suc k) h = absurd h
  within_first table x xs (n ∷ ns) zero h = (h.0, h.1)
  within_first table x xs (n ∷ ns) (suc k) h =
      let r = within_first table x xs ns k h in
      let e : suc (k + 1) ≡ suc k + 1 = omega arith in
      (r.0, subst (λ j. AreWithin table f g xs (drop j (n ∷ ns))) e r.1)

pub beside : {A B : Type 0} (xs : List A) (ys : List B) (i : ℕ) (x : A) (y : B) → slice_get xs i ≡ Some x → slice_get ys i ≡ Some y → Contains (zip xs ys) (x, y)
beside [] ys i x y is js = absurd (cc)
beside (a ∷ xs) [] i x y is js = absurd (cc)
beside (a ∷ xs) (b ∷ ys) zero x y is js = (0, omega arith, λ k. (same_Some a x is k, same_Some b y js k))
beside (a ∷ xs) (b ∷ ys) (suc i) x y is js = let r = beside xs ys i x y is js in (suc r.0, omega (arith, r.1), r.2)

-- ---- the first that passes a test

module _ {X : Type 0} (test : X → Bool) where
  first_by : (x : X) (xs : List X) (b : Bool) → slice_get xs (position_or_len test xs) ≡ find test xs
      → slice_get (x ∷ xs) (cond (not b) (1 + position_or_len test xs) 0) ≡ cond b (Some x) (find test xs)
  first_by x xs true rest = refl
  first_by x xs false rest =
      let e : 1 + position_or_len test xs ≡ suc (position_or_len test xs) = omega arith in
      ap (slice_get (x ∷ xs)) e ∙ rest

  first_is : (xs : List X) → slice_get xs (position_or_len test xs) ≡ find test xs
  first_is [] = refl
  first_is (x ∷ xs) = first_by x xs (test x) (first_is xs)

  found_by : (xs : List X) (n : ℕ) (b : Bool) → nat_lt n (length xs) ≡ b → slice_get xs n ≡ find test xs
      → option_and_then (slice_get xs) (cond b (Some n) None) ≡ find test xs
  found_by xs n true is found = found
  found_by xs n false is found = sym (slice_get_past xs n (past n (length xs) is)) ∙ found
    where
      past : (a b : ℕ) → nat_lt a b ≡ false → b ≤ a
      past a b h = grind (arith, nat_tests)

  -- is at its index
  pub at_index : (xs : List X) → option_and_then (slice_get xs) (position test xs) ≡ find test xs
  at_index xs = found_by xs (position_or_len test xs) (nat_lt (position_or_len test xs) (length xs)) refl (first_is xs)
