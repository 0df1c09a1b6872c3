-- The names of a list of things against the list itself.
use Rattle.std.proofs.Common.{◌≡◌, ◌+◌, ℕ, zero, suc, Bool, true, false, cond, not, nat_lt, ◌||◌, List, [], ◌∷◌, length, map, set, get_or, slice_get, option_map, Option, Some, None, find, position, refl, sym, ap, ◌∙◌}
use Rattle.std.specs.List.{list_any, position_or_len}
use Rattle.std.proofs.lemmas.List.{length-map}
use Rattle.std.proofs.lemmas.List.Folds.{find_at}
use Rattle.sl_base_names.proofs.IndexLemmas.{position_cons}
use Rattle.sl_spec.specs.Begun.{with_number, with_number_at}
use Rattle.sl_spec.specs.Tables.{Table}

module _ {X : Type 0} (p : X → Bool) where
  first_by : (b : Bool) (k i : ℕ) → cond b (Some k) None ≡ Some i → k ≡ i
  first_by true k i h = cc
  first_by false k i h = absurd (cc)

  -- what is at the first index at which the test passes
  pub found_there : (xs : List X) (i : ℕ) → position p xs ≡ Some i → slice_get xs i ≡ find p xs
  found_there xs i h = ap (slice_get xs) (sym (first_by (nat_lt (position_or_len p xs) (length xs)) (position_or_len p xs) i h)) ∙ sym (find_at p xs)

  none_by : (b : Bool) (o : Option ℕ) (x : X) (rest : Option X) → cond b (Some 0) (option_map suc o) ≡ None → (o ≡ None → rest ≡ None) → cond b (Some x) rest ≡ None
  none_by true o x rest h f = absurd (cc)
  none_by false None x rest h f = f refl
  none_by false (Some k) x rest h f = absurd (cc)

  pub found_nowhere : (xs : List X) → position p xs ≡ None → find p xs ≡ None
  found_nowhere [] h = refl
  found_nowhere (x ∷ xs) h = none_by (p x) (position p xs) x (find p xs) (sym (position_cons p x xs) ∙ h) (found_nowhere xs)

module _ {X Y : Type 0} (f : X → Y) where
  module _ (p : Y → Bool) where
    pub any_named : (xs : List X) → list_any p (map f xs) ≡ list_any (λ x. p (f x)) xs
    any_named [] = refl
    any_named (x ∷ xs) = ap (λ b. p (f x) || b) (any_named xs)

    past_named : (xs : List X) → position_or_len p (map f xs) ≡ position_or_len (λ x. p (f x)) xs
    past_named [] = refl
    past_named (x ∷ xs) = ap (λ n. cond (not (p (f x))) (1 + n) 0) (past_named xs)

    pub index_is : (xs : List X) → position p (map f xs) ≡ position (λ x. p (f x)) xs
    index_is xs = rw (past_named xs, length-map xs f) refl

  -- a thing in the place of one with the same name
  pub set_named : (xs : List X) (i : ℕ) (x d : X) → f x ≡ f (get_or xs i d) → map f (set xs i x) ≡ map f xs
  set_named [] i x d h = refl
  set_named (y ∷ xs) zero x d h = ap (λ z. z ∷ map f xs) h
  set_named (y ∷ xs) (suc i) x d h = ap (λ zs. f y ∷ zs) (set_named xs i x d h)

pub set_number : (ts : List Table) (i n : ℕ) (t d : Table) → t ≡ with_number (get_or ts i d) n → set ts i t ≡ with_number_at ts i n
set_number [] i n t d h = refl
set_number (u ∷ ts) zero n t d h = ap (λ v. v ∷ ts) h
set_number (u ∷ ts) (suc i) n t d h = ap (λ vs. u ∷ vs) (set_number ts i n t d h)
