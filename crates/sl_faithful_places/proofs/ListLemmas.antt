-- What holds of each of a list, and what a name finds.
use Rattle.std.proofs.Common.{◌≡◌, ℕ, zero, suc, ◌<◌, Bool, true, cond, List, [], ◌∷◌, ◌++◌, map, length, slice_get, Some, None, refl, sym, ap, subst, ◌∙◌, append-nil, arith}
use Rattle.std.specs.Prelude.{find, position, unwrap_or}
use Rattle.std.specs.List.{list_all, position_or_len}
use Rattle.std.proofs.lemmas.Bool.{lt-ltb}
use Rattle.std.proofs.lemmas.Grind.{common_steps}
use Rattle.std.proofs.lemmas.List.Folds.{find_at}
use Rattle.std.proofs.lemmas.Option.{slice_get_within}
use Rattle.sl_spec_registers.proofs.BoolLemmas.{and_parts}

-- Each of them has it.
abbrev pub Each : {X : Type 0} → (X → Type 0) → List X → Type 0
Each {X = X} P xs = (i : ℕ) (x : X) → slice_get xs i ≡ Some x → P x

module _ {X : Type 0} (P : X → Type 0) where
  pub each_none : Each P []
  each_none i x at = absurd (cc)

  pub each_more : (y : X) (xs : List X) → P y → Each P xs → Each P (y ∷ xs)
  each_more y xs here rest zero x at = let e : y ≡ x = cc in subst P e here
  each_more y xs here rest (suc i) x at = rest i x at

  pub each_both : (xs ys : List X) → Each P xs → Each P ys → Each P (xs ++ ys)
  each_both [] ys some others i x at = others i x at
  each_both (y ∷ xs) ys some others i x at =
      each_more y (xs ++ ys) (some 0 y refl) (each_both xs ys (λ j z there. some (suc j) z there) others) i x at

  -- what is made of those that pass a test
  pub each_made : {A : Type 0} (make : A → X) (test : A → Bool) → ((a : A) → test a ≡ true → P (make a))
      → (given : List A) → list_all test given ≡ true → Each P (map make given)
  each_made make test makes [] all = each_none
  each_made make test makes (a ∷ given) all =
      let p = and_parts (test a) (list_all test given) all in
      each_more (make a) (map make given) (makes a p.0) (each_made make test makes given p.1)

-- ---- a list that got more

pub still_there : {X : Type 0} (xs more : List X) (i : ℕ) (x : X) → slice_get xs i ≡ Some x
    → slice_get (xs ++ more) i ≡ Some x
still_there [] more i x at = absurd (cc)
still_there (y ∷ xs) more zero x at = at
still_there (y ∷ xs) more (suc i) x at = still_there xs more i x at

-- A list got more, each of which has it.
pub record Got {X : Type 0} (P : X → Type 0) (old new : List X) : Type 0 where
  pub more : List X
  pub is : new ≡ old ++ more
  pub each : Each P more

module _ {X : Type 0} (P : X → Type 0) (old new : List X) where
  pub got_none : new ≡ old → Got P old new
  got_none same = record { more = []; is = same ∙ sym (append-nil old); each = each_none P }

  pub got_there : Got P old new → (i : ℕ) (x : X) → slice_get old i ≡ Some x → slice_get new i ≡ Some x
  got_there got i x at = subst (λ (l : List X). slice_get l i ≡ Some x) (sym got.is) (still_there old got.more i x at)

  -- then each has what follows of it
  pub got_each : (Q : X → Type 0) → ((x : X) → P x → Q x) → Got P old new → Each P old → Each Q new
  got_each Q then got all = subst (Each Q) (sym got.is)
      (each_both Q old got.more (λ i x at. then x (all i x at)) (λ i x at. then x (got.each i x at)))

-- ---- what is found

module _ {X : Type 0} (p : X → Bool) (xs : List X) where
  -- is at its index
  pub at_position : (i : ℕ) → position p xs ≡ Some i → slice_get xs i ≡ find p xs
  at_position i is =
      let at : position_or_len p xs ≡ i = grind (arith, common_steps) in
      ap (slice_get xs) (sym at) ∙ sym (find_at p xs)

  pub position_below : position_or_len p xs < length xs → position p xs ≡ Some (position_or_len p xs)
  position_below below =
      ap (λ b. cond b (Some (position_or_len p xs)) None) (lt-ltb (position_or_len p xs) (length xs) below)

  pub found_at : (x : X) → find p xs ≡ Some x → slice_get xs (unwrap_or (position p xs) 0) ≡ Some x
  found_at x is =
      let at : slice_get xs (position_or_len p xs) ≡ Some x = sym (find_at p xs) ∙ is in
      ap (λ o. slice_get xs (unwrap_or o 0)) (position_below (slice_get_within xs (position_or_len p xs) x at)) ∙ at
