-- Numbers that have few bits.
use Rattle.std.proofs.Common.{◌≡◌, ℕ, ◌*◌, ◌/◌, ◌^◌, ◌<◌, ◌≤◌, ◌==◌, true, false, inl, inr, sym, ap, ◌∙◌, arith}
use Rattle.std.specs.Prelude.{nat_lt}
use Rattle.std.proofs.Math.Nat.{div-eq_of_lt, div-lt_iff_lt-mul}
use Rattle.std.proofs.Math.Pow.{pow_mono, pow_pos}
use Rattle.std.proofs.lemmas.Bool.{cases_lt}
use Rattle.std.proofs.lemmas.Bool.Decides.{nat_tests}

-- nothing is left where they are shifted out
pub nothing_above : (v k : ℕ) → (v / 2 ^ k == 0) ≡ nat_lt v (2 ^ k)
nothing_above v k =
    elim (cases_lt v (2 ^ k)) [
      | inl less ↦
          let narrow : nat_lt v (2 ^ k) ≡ true = grind (arith, nat_tests, less) in
          ap (λ q. q == 0) (div-eq_of_lt less) ∙ sym narrow
      | inr more ↦
          let wide : nat_lt v (2 ^ k) ≡ false = grind (arith, nat_tests, more) in
          elim (cases_lt (v / 2 ^ k) 1) [
            | inl none ↦ absurd (omega (arith, more, (div-lt_iff_lt-mul {x = v} {y = 1} (pow_pos k)).0 none))
            | inr some ↦ let left : (v / 2 ^ k == 0) ≡ false = grind (arith, nat_tests, some) in left ∙ sym wide
          ]
    ]

-- a number of 64 bits has no more
pub is_narrow : (v k : ℕ) → v < 2 ^ 64 → 64 ≤ k → true ≡ nat_lt v (2 ^ k)
is_narrow v k small wide =
    let most : 2 ^ 64 ≤ 2 ^ k = pow_mono wide in
    let less : nat_lt v (2 ^ k) ≡ true = grind (arith, nat_tests, small, most) in
    sym less
