-- Bytes that begin alike.
use Rattle.std.proofs.Common.{◌≡◌, ℕ, ◌+◌, ◌≤◌, min, Bool, true, false, List, length, take, drop}
use Rattle.std.proofs.Common.{refl, sym, ap, ◌∙◌, arith, length-take, take-take}
use Rattle.std.specs.Prelude.{nat_le}
use Rattle.std.proofs.lemmas.Bool.Decides.{nat_tests}
use Rattle.std.proofs.lemmas.List.{drop-take}

module _ (n : ℕ) (one other : List ℕ) (alike : take n one ≡ take n other) where
  begins : (m : ℕ) → m ≤ n → take m one ≡ take m other
  begins m within = sym (take-take m n one within) ∙ ap (take m) alike ∙ take-take m n other within

  -- the bytes of a part are the same
  pub window : (at k : ℕ) → at + k ≤ n → take k (drop at one) ≡ take k (drop at other)
  window at k within = sym (drop-take at k one) ∙ ap (drop at) (begins (at + k) within)
      ∙ drop-take at k other

  lengths : min n (length one) ≡ min n (length other)
  lengths = sym (length-take n one) ∙ ap length alike ∙ length-take n other

  same_test : (m a b : ℕ) → m ≤ n → min n a ≡ min n b → (p q : Bool) → nat_le m a ≡ p
      → nat_le m b ≡ q → p ≡ q
  same_test m a b within same true true is js = refl
  same_test m a b within same false false is js = refl
  same_test m a b within same true false is js = absurd (grind (arith, nat_tests))
  same_test m a b within same false true is js = absurd (grind (arith, nat_tests))

  -- and so is whether a part is whole
  pub reaches : (m : ℕ) → m ≤ n → nat_le m (length one) ≡ nat_le m (length other)
  reaches m within = same_test m (length one) (length other) within lengths
      (nat_le m (length one)) (nat_le m (length other)) refl refl
