-- The two's complement reading of numbers of n bytes.
use Rattle.std.proofs.Common.{◌≡◌, ℕ, zero, suc, ◌+◌, ◌-◌, ◌/◌, ◌%◌, ◌^◌, ◌<◌, ◌≤◌, sym, ◌∙◌, inl, inr, ◌⊎◌, arith}
use Rattle.std.proofs.lemmas.Bool.{cases_lt}
use Rattle.std.specs.Prelude.{pos, neg_ℤ}
use Rattle.std.proofs.Math.Nat.{mod-eq_of_lt, mod-eq-sub-mod, mod_self, sub-zero, div-le_self}
use Rattle.sl_word.specs.Numbers.{signed_value, residue}

-- a number below m is left alone by % m
pub kept : (x m : ℕ) → x < m → x % m ≡ x
kept x m h = mod-eq_of_lt h

-- a quotient isn't greater than what is divided
pub quotient_at_most : (x y : ℕ) → x / y ≤ x
quotient_at_most x y = div-le_self x y

-- A sum of two numbers below m, cut to a number below m.
pub sum-cut : (a b m : ℕ) → a < m → b < m → ((a + b) % m ≡ a + b) ⊎ ((a + b) % m + m ≡ a + b)
sum-cut a b m ha hb =
    elim (cases_lt (a + b) m) [
      | inl h ↦ inl (mod-eq_of_lt h)
      | inr h ↦ inr (let e : (a + b) % m ≡ a + b - m = mod-eq-sub-mod {n = a + b} {m = m} h ∙ mod-eq_of_lt (omega arith) in omega arith)
    ]

-- The number of n bytes that adds up to 0 with a.
pub residue-opposite : (n a : ℕ) → a < 256 ^ n → residue n (neg_ℤ (pos a)) ≡ (256 ^ n - a) % 256 ^ n
residue-opposite n zero h = rw sub-zero (mod-eq_of_lt h ∙ sym (mod_self (256 ^ n)))
residue-opposite n (suc k) h =
    let less : 256 ^ n - suc k < 256 ^ n = omega arith in
    let small : k < 256 ^ n = omega arith in
    rw (mod-eq_of_lt less, mod-eq_of_lt small) (omega arith)

-- A number is the residue of what it means.
pub residue-signed_value : (n v : ℕ) → v < 256 ^ n → residue n (signed_value n v) ≡ v
residue-signed_value n v h = grind (arith, kept)
