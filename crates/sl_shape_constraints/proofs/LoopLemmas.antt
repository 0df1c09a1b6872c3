-- A loop over cubes that adds what is told of each.
use Rattle.std.proofs.Common.{◌≡◌, ℕ, zero, suc, ◌+◌, ◌<◌, ◌≤◌, ◌⊎◌, List, [], ◌∷◌, length, get_or, arith, sym, ◌∙◌, ap, refl, inl, inr, subst}
use Rattle.std.specs.List.{Any, HoldsAt}
use Rattle.std.proofs.lemmas.Bool.{cases_lt}
use Rattle.std.proofs.lemmas.List.{get_or_default}
use Rattle.std.proofs.lemmas.List.Elements.{at_read}
use Rattle.sl_cube.specs.declared.Cube.{Cube}
use Rattle.sl_cube.specs.declared.Point.{Point}
use Rattle.sl_shape_constraints.specs.Sets.{Adds}
use Rattle.sl_shape_constraints.proofs.SetLemmas.{adds_same, adds_both}

-- It holds of one of the first n cubes.
abbrev pub AnyFirst : {X : Type 0} → (X → Type 0) → List X → ℕ → Type 0
AnyFirst {X} R xs n = (k : ℕ) × (k < n) × (k < length xs) × HoldsAt R xs k

element : {X : Type 0} → (xs : List X) (k : ℕ) → k < length xs → (x : X) × ((d : X) → get_or xs k d ≡ x)
element [] k lt = absurd (omega arith)
element (x ∷ xs) zero lt = (x, λ d. refl)
element (x ∷ xs) (suc k) lt = element xs k (omega arith)

module _ {X : Type 0} (R : X → Type 0) (xs : List X) (n : ℕ) where
  pub any_of_first : AnyFirst R xs n → Any R xs
  any_of_first x = let e = element xs x.0 x.2 in (x.0, e.0, x.2, e.1 e.0, subst (λ (c : X). R c) (e.1 e.0) (x.3 e.0))

  pub first_of_any : length xs ≤ n → Any R xs → AnyFirst R xs n
  first_of_any all x = (x.0, omega (arith, all, x.2), x.2, λ d. subst (λ (c : X). R c) (sym (get_or_default xs x.0 d x.1 x.2 ∙ x.3)) x.4)

  pub one_more_first : (c : X) → n < length xs → c ≡ get_or xs n c → AnyFirst R xs n ⊎ R c → AnyFirst R xs (n + 1)
  one_more_first c below is (inl x) = (x.0, omega (arith, x.1), x.2, x.3)
  one_more_first c below is (inr x) = (n, omega arith, below, at_read xs R n c below is x)

  pub one_less_first : (c : X) → n < length xs → c ≡ get_or xs n c → AnyFirst R xs (n + 1) → AnyFirst R xs n ⊎ R c
  one_less_first c below is x = elim (cases_lt x.0 n) [
    | inl before ↦ inl (x.0, before, x.2, x.3)
    | inr after ↦
        let same : x.0 ≡ n = omega (arith, x.1) in
        inr (subst (λ (y : X). R y) (ap (λ (k : ℕ). get_or xs k c) same ∙ sym is) (x.3 c))
  ]

module _ {X : Type 0} (R : Point → X → Type 0) (xs : List X) where
  abbrev pub AddsFirst : List Cube → ℕ → List Cube → Type 0
  AddsFirst start n now = Adds start (λ p. AnyFirst (R p) xs n) now

  pub first_none : (start : List Cube) → AddsFirst start 0 start
  first_none start = λ p range. (inl, λ s. elim s [ inl old ↦ old | inr h ↦ absurd (omega (arith, h.1)) ])

  pub first_more : (start now next : List Cube) (n : ℕ) (c : X) → n < length xs → c ≡ get_or xs n c → AddsFirst start n now → Adds now (λ p. R p c) next
      → AddsFirst start (n + 1) next
  first_more start now next n c below is so_far step = adds_same start next (λ p. AnyFirst (R p) xs n ⊎ R p c) (λ p. AnyFirst (R p) xs (n + 1))
      (λ p range x. one_more_first (R p) xs n c below is x) (λ p range x. one_less_first (R p) xs n c below is x)
      (adds_both start now next (λ p. AnyFirst (R p) xs n) (λ p. R p c) so_far step)

  -- some element of the list, whose place and value are told
  pub first_all : (start now : List Cube) (Q : Point → Type 0) (n : ℕ) → length xs ≤ n → ((p : Point) → Q p → Any (R p) xs) → ((p : Point) → Any (R p) xs → Q p)
      → AddsFirst start n now → Adds start Q now
  first_all start now Q n all to from adds = adds_same start now (λ p. AnyFirst (R p) xs n) Q
      (λ p range x. from p (any_of_first (R p) xs n x)) (λ p range q. first_of_any (R p) xs n all (to p q)) adds
