-- The index of the first member that passes a test.
use Rattle.std.proofs.Common.{◌≡◌, ℕ, zero, suc, ◌+◌, ◌<◌, ◌≤◌, inl, inr, Bool, true, false, cond, nat_lt, List, [], ◌∷◌, length, get_or, Some, None, refl, sym, ap, ◌∙◌, arith}
use Rattle.std.specs.Prelude.{position, slice_get}
use Rattle.std.proofs.lemmas.Bool.{cases_lt}
use Rattle.std.proofs.lemmas.Bool.Decides.{nat_tests}
use Rattle.std.proofs.lemmas.List.Sums.{position_or_len_is}

pub read_alike : {X : Type 0} (xs : List X) (i : ℕ) (c d : X) → i < length xs → get_or xs i c ≡ get_or xs i d
read_alike [] i c d below = absurd (omega arith)
read_alike (x ∷ xs) zero c d below = refl
read_alike (x ∷ xs) (suc i) c d below = read_alike xs i c d (omega arith)

pub at_slice : {X : Type 0} (xs : List X) (i : ℕ) (x : X) → slice_get xs i ≡ Some x → x ≡ get_or xs i x
at_slice [] i x is = absurd (let h : ⊥ = cc in h)
at_slice (y ∷ ys) zero x is = let e : y ≡ x = cc in sym e
at_slice (y ∷ ys) (suc i) x is = at_slice ys i x is

module _ {X : Type 0} (test : X → Bool) (xs : List X) where
  -- no member before the index passes
  abbrev pub IsNotBefore : ℕ → Type 0
  IsNotBefore i = (k : ℕ) (d : X) → k < i → test (get_or xs k d) ≡ false

  pub is_first : (i : ℕ) (x : X) → i < length xs → x ≡ get_or xs i x → test x ≡ true → IsNotBefore i → Some i ≡ position test xs
  is_first i x below at passes before =
      let e : nat_lt i (length xs) ≡ true = grind (arith, nat_tests) in
      ap (λ b. cond b (Some i) None) (sym e)
      ∙ ap (λ n. cond (nat_lt n (length xs)) (Some n) None)
      (sym (position_or_len_is test xs i x (omega arith) (λ k less. before k x less) (λ inside. ap test (sym at) ∙ passes)))

  pub is_later : (i : ℕ) (x : X) → i < length xs → x ≡ get_or xs i x → test x ≡ false → IsNotBefore i → IsNotBefore (i + 1)
  is_later i x below at fails before k d less = elim (cases_lt k i) [
    | inl h ↦ before k d h
    | inr h ↦
        let e : k ≡ i = omega arith in
        ap (λ j. test (get_or xs j d)) e ∙ ap test (read_alike xs i d x below ∙ sym at) ∙ fails
  ]

  pub is_nowhere : (i : ℕ) → length xs ≤ i → IsNotBefore i → None ≡ position test xs
  is_nowhere i end before =
      none xs refl
    where
      none : (ys : List X) → ys ≡ xs → None ≡ position test xs
      none [] is = ap (λ (l : List X). position test l) is
      none (y ∷ ys) is =
          let e : nat_lt (length xs) (length xs) ≡ false = grind (arith, nat_tests) in
          ap (λ b. cond b (Some (length xs)) None) (sym e)
          ∙ ap (λ n. cond (nat_lt n (length xs)) (Some n) None)
          (sym (position_or_len_is test xs (length xs) y (omega arith) (λ k less. before k y (omega arith)) (λ inside. absurd (omega arith))))
