-- Rules that hang on names: what one name more and one pattern more give.
use Rattle.std.proofs.Common.{◌≡◌, ◌&&◌, ◌||◌, not, ℕ, suc, ◌+◌, ◌<◌, ◌≤◌, Bool, true, false, List, [], ◌∷◌, ◌++◌, length, get_or, drop, refl, sym, ap, ◌∙◌, if◌then◌else◌, arith}
use Rattle.std.specs.Prelude.{◌==◌}
use Rattle.std.specs.List.{list_all, list_any}
use Rattle.std.specs.Str.{bytes_eq}
use Rattle.std.proofs.lemmas.List.{drop_more}
use Rattle.std.proofs.lemmas.List.Folds.{list_all-append, list_any-append}
use Rattle.std.proofs.Math.ListN.{drop_of_length-le}
use Rattle.std.proofs.Math.Bool.{or-false}
use Rattle.std.proofs.lemmas.Slice.Eq.{bytes_eq-Decides}
use Rattle.sl_spec_rules.specs.Names.{Name, is_among}
use Rattle.sl_spec_actions.specs.ActionNames.{with_name}
use Rattle.sl_spec_actions.specs.Pending.{Pending, all_stand, none_stands}

pub and_swap : (a b c : Bool) → ((a && b) && c) ≡ (a && (b && c))
and_swap true b c = refl
and_swap false b c = refl

pub and_true : (a : Bool) → (a && true) ≡ a
and_true true = refl
and_true false = refl

-- ---- a name that is there already

all_twice : (a b : Bool) → (a && b) ≡ ((a && b) && a)
all_twice true b = sym (and_true b)
all_twice false b = refl

any_twice : (a b : Bool) → (a || b) ≡ ((a || b) || a)
any_twice true b = refl
any_twice false b = sym (or-false b)

pub or_swap : (a b c : Bool) → ((a || b) || c) ≡ (a || (b || c))
or_swap true b c = refl
or_swap false b c = refl

module _ (f : Name → Bool) where
  all_by : (names : List Name) (n m : Name) (same : Bool) → bytes_eq n m ≡ same → (same || is_among names n) ≡ true → (is_among names n ≡ true → list_all f names ≡ (list_all f names && f n))
      → (f m && list_all f names) ≡ ((f m && list_all f names) && f n)
  all_by names n m true e is later = all_twice (f m) (list_all f names) ∙ ap (λ b. (f m && list_all f names) && b) (sym (ap f ((bytes_eq-Decides n m).0 e)))
  all_by names n m false e is later = ap (λ b. f m && b) (later is) ∙ sym (and_swap (f m) (list_all f names) (f n))

  pub all_has : (names : List Name) (n : Name) → is_among names n ≡ true → list_all f names ≡ (list_all f names && f n)
  all_has [] n is = absurd (cc)
  all_has (m ∷ names) n is = all_by names n m (bytes_eq n m) refl is (all_has names n)

  any_by : (names : List Name) (n m : Name) (same : Bool) → bytes_eq n m ≡ same → (same || is_among names n) ≡ true → (is_among names n ≡ true → list_any f names ≡ (list_any f names || f n))
      → (f m || list_any f names) ≡ ((f m || list_any f names) || f n)
  any_by names n m true e is later = any_twice (f m) (list_any f names) ∙ ap (λ b. (f m || list_any f names) || b) (sym (ap f ((bytes_eq-Decides n m).0 e)))
  any_by names n m false e is later = ap (λ b. f m || b) (later is) ∙ sym (or_swap (f m) (list_any f names) (f n))

  pub any_has : (names : List Name) (n : Name) → is_among names n ≡ true → list_any f names ≡ (list_any f names || f n)
  any_has [] n is = absurd (cc)
  any_has (m ∷ names) n is = any_by names n m (bytes_eq n m) refl is (any_has names n)

  -- ---- one name more, which stands once

  all_more_by : (names : List Name) (n : Name) (b : Bool) → is_among names n ≡ b → list_all f (if b then names else names ++ n ∷ []) ≡ (list_all f names && f n)
  all_more_by names n true is = all_has names n is
  all_more_by names n false is = list_all-append f names (n ∷ []) ∙ ap (λ b. list_all f names && b) (and_true (f n))

  pub all_more : (names : List Name) (n : Name) → list_all f (with_name names n) ≡ (list_all f names && f n)
  all_more names n = all_more_by names n (is_among names n) refl

  any_more_by : (names : List Name) (n : Name) (b : Bool) → is_among names n ≡ b → list_any f (if b then names else names ++ n ∷ []) ≡ (list_any f names || f n)
  any_more_by names n true is = any_has names n is
  any_more_by names n false is = list_any-append f names (n ∷ []) ∙ ap (λ b. list_any f names || b) (or-false (f n))

  pub any_more : (names : List Name) (n : Name) → list_any f (with_name names n) ≡ (list_any f names || f n)
  any_more names n = any_more_by names n (is_among names n) refl

-- no name stands in no way
pub none_left : (names : List Name) → (length names == 0) ≡ list_all (λ n. false) names
none_left [] = refl
none_left (n ∷ names) = let none : (suc (length names) == 0) ≡ false = grind arith in none

-- ---- rules that hang on one name more

pub hangs : (p : Pending) (n : Name) (f : Name → Bool) → all_stand (record { holds = p.holds; names = with_name p.names n }) f ≡ (all_stand p f && f n)
hangs p n f = ap (λ b. p.holds && b) (all_more f p.names n) ∙ sym (and_swap p.holds (list_all f p.names) (f n))

not_or : (h a b : Bool) → (h && not (a || b)) ≡ ((h && not a) && not b)
not_or true true b = refl
not_or true false b = refl
not_or false a b = refl

pub hangs_early : (p : Pending) (n : Name) (f : Name → Bool) → none_stands (record { holds = p.holds; names = with_name p.names n }) f ≡ (none_stands p f && not (f n))
hangs_early p n f = ap (λ b. p.holds && not b) (any_more f p.names n) ∙ not_or p.holds (list_any f p.names) (f n)

-- ---- tests of all members, as a loop makes them

module _ {X : Type 0} (p : X → Bool) (start : Bool) (xs : List X) where
  -- what holds so far, and of the rest, is what holds of all
  abbrev pub IsTested : Bool → ℕ → Type 0
  IsTested now i = (now && list_all p (drop i xs)) ≡ (start && list_all p xs)

  pub test_goes : (now next : Bool) (i : ℕ) (x : X) → i < length xs → x ≡ get_or xs i x → next ≡ (now && p x) → IsTested now i → IsTested next (i + 1)
  test_goes now next i x below at is so_far =
      let rest : drop i xs ≡ x ∷ drop (i + 1) xs = drop_more xs i x below ∙ ap (λ (z : X). z ∷ drop (i + 1) xs) (sym at) in
      ap (λ b. b && list_all p (drop (i + 1) xs)) is ∙ and_swap now (p x) (list_all p (drop (i + 1) xs)) ∙ sym (ap (λ (l : List X). now && list_all p l) rest) ∙ so_far

  pub test_ends : (now : Bool) (i : ℕ) → length xs ≤ i → IsTested now i → now ≡ (start && list_all p xs)
  test_ends now i end so_far = sym (and_true now) ∙ sym (ap (λ (l : List X). now && list_all p l) (drop_of_length-le xs end)) ∙ so_far

-- ---- names that are left

-- a name more that isn't one of those
pub left_more : (those names next : List Name) (n : Name) (f : Name → Bool) → is_among those n ≡ false → next ≡ with_name names n → list_all f next ≡ (list_all f names && (is_among those n || f n))
left_more those names next n f other is = ap (list_all f) is ∙ all_more f names n ∙ sym (ap (λ b. list_all f names && (b || f n)) other)

-- ---- one of these names among those of several

none_at : {Y : Type 0} (ys : List Y) → list_any (λ y. false) ys ≡ false
none_at [] = refl
none_at (y ∷ ys) = none_at ys

pub four : (a b c d : Bool) → ((a || b) || (c || d)) ≡ ((a || c) || (b || d))
four true b c d = refl
four false true true d = refl
four false true false d = refl
four false false c d = refl

pub any_either : {X : Type 0} (xs : List X) (f g : X → Bool) → list_any (λ x. f x || g x) xs ≡ (list_any f xs || list_any g xs)
any_either [] f g = refl
any_either (x ∷ xs) f g = ap (λ b. (f x || g x) || b) (any_either xs f g) ∙ four (f x) (g x) (list_any f xs) (list_any g xs)

pub any_alike : {X : Type 0} (xs : List X) (f g : X → Bool) → ((x : X) → f x ≡ g x) → list_any f xs ≡ list_any g xs
any_alike [] f g same = refl
any_alike (x ∷ xs) f g same = ap (λ b. b || list_any f xs) (same x) ∙ ap (λ b. g x || b) (any_alike xs f g same)

pub any_swap : {X Y : Type 0} (r : X → Y → Bool) (xs : List X) (ys : List Y) → list_any (λ x. list_any (r x) ys) xs ≡ list_any (λ y. list_any (λ x. r x y) xs) ys
any_swap r [] ys = sym (none_at ys)
any_swap r (x ∷ xs) ys = ap (λ b. list_any (r x) ys || b) (any_swap r xs ys) ∙ sym (any_either ys (r x) (λ y. list_any (λ z. r z y) xs))

turned_by : (v w : Name) (a b : Bool) → bytes_eq v w ≡ a → bytes_eq w v ≡ b → a ≡ b
turned_by v w true true h k = refl
turned_by v w false false h k = refl
turned_by v w true false h k = sym ((bytes_eq-Decides w v).1 (sym ((bytes_eq-Decides v w).0 h))) ∙ k
turned_by v w false true h k = sym h ∙ (bytes_eq-Decides v w).1 (sym ((bytes_eq-Decides w v).0 k))

eq_turned : (v w : Name) → bytes_eq v w ≡ bytes_eq w v
eq_turned v w = turned_by v w (bytes_eq v w) (bytes_eq w v) refl refl

-- a name of those is one of these, from either side
pub one_of_both : (names those : List Name) → list_any (is_among those) names ≡ list_any (is_among names) those
one_of_both names those =
    any_swap bytes_eq names those ∙ any_alike those (λ w. list_any (λ v. bytes_eq v w) names) (is_among names) (λ w. any_alike names (λ v. bytes_eq v w) (bytes_eq w) (λ v. eq_turned v w))

-- ---- one of the members that passes, as a loop looks for it

module _ {X : Type 0} (p : X → Bool) (xs : List X) where
  -- whether one of the rest passes is whether one of all does
  abbrev pub IsLeft : ℕ → Type 0
  IsLeft i = list_any p (drop i xs) ≡ list_any p xs

  at : (i : ℕ) (x : X) → i < length xs → x ≡ get_or xs i x → drop i xs ≡ x ∷ drop (i + 1) xs
  at i x below is = drop_more xs i x below ∙ ap (λ (z : X). z ∷ drop (i + 1) xs) (sym is)

  pub any_found : (i : ℕ) (x : X) → i < length xs → x ≡ get_or xs i x → p x ≡ true → IsLeft i → true ≡ list_any p xs
  any_found i x below is passes so_far = sym (ap (λ b. b || list_any p (drop (i + 1) xs)) passes) ∙ sym (ap (list_any p) (at i x below is)) ∙ so_far

  pub any_goes : (i : ℕ) (x : X) → i < length xs → x ≡ get_or xs i x → p x ≡ false → IsLeft i → IsLeft (i + 1)
  any_goes i x below is fails so_far = sym (ap (λ b. b || list_any p (drop (i + 1) xs)) fails) ∙ sym (ap (list_any p) (at i x below is)) ∙ so_far

  pub any_ends : (i : ℕ) → length xs ≤ i → IsLeft i → false ≡ list_any p xs
  any_ends i end so_far = sym (ap (list_any p) (drop_of_length-le xs end)) ∙ so_far
