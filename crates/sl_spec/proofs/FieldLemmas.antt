-- Bits of a field, and its value in 64 bits.
use Rattle.std.proofs.Common.{◌≡◌, ℕ, suc, ◌+◌, ◌-◌, ◌/◌, ◌%◌, ◌^◌, ◌<◌, ◌≤◌, Bool, true, false, bit_and, sym, ap, ◌∙◌, arith}
use Rattle.std.specs.Prelude.{ℤ, pos, FitsSigned}
use Rattle.std.specs.Int.{cast_signed, int_wrap, w64}
use Rattle.std.proofs.lemmas.Int.{int_wrap_fits}
use Rattle.std.proofs.lemmas.Nat.{and_mask, pow_pos}
use Rattle.std.proofs.lemmas.Nat.Bits.{ones_shr}
use Rattle.std.proofs.Math.Nat.{mod-eq_of_lt}
use Rattle.sl_spec.specs.Tables.{Field}
use Rattle.sl_spec.specs.FieldValues.{bits_of, read_as, signed_of, value_of, wrapped}

-- the greatest number of so many bits, as it is shifted out of 64
pub greatest_is : (width : ℕ) → width ≤ 64 → (2 ^ 64 - 1) / 2 ^ (64 - width) + 1 ≡ 2 ^ width
greatest_is width most =
    let shifted : (2 ^ 64 - 1) / 2 ^ (64 - width) ≡ 2 ^ (64 - (64 - width)) - 1 = ones_shr 64 (64 - width) (omega arith) in
    let back : 64 - (64 - width) ≡ width = omega arith in
    let same : 2 ^ (64 - (64 - width)) ≡ 2 ^ width = ap (λ (k : ℕ). 2 ^ k) back in
    let some : 0 < 2 ^ width = pow_pos width in
    omega (arith, shifted, same, some)

-- a mask of the lowest bits leaves the rest of a division
pub masked : (n mask width : ℕ) → mask + 1 ≡ 2 ^ width → bit_and n mask ≡ n % 2 ^ width
masked n mask width e =
    let is : mask ≡ 2 ^ width - 1 = omega arith in
    ap (bit_and n) is ∙ and_mask n width

module _ (f : Field) (n : ℕ) where
  abbrev raw : ℕ
  raw = bits_of f.low f.high n

  abbrev read : Bool → ℤ
  read b = wrapped (read_as b (suc f.high - f.low) raw)

  pub signed_value : (z : ℤ) → f.signed ≡ true → FitsSigned w64 z → z ≡ signed_of (suc f.high - f.low) raw → z ≡ value_of f n
  unfolding value_of
  signed_value z signed fits e = sym (int_wrap_fits w64 z fits) ∙ ap wrapped e ∙ ap read (sym signed)

  pub unsigned_value : (k : ℕ) → f.signed ≡ false → k < 2 ^ 64 → k ≡ raw → cast_signed w64 k ≡ value_of f n
  unfolding value_of int_wrap
  unsigned_value k signed small e =
      let same : k % 2 ^ 64 ≡ k = mod-eq_of_lt small in
      ap (cast_signed w64) (sym same) ∙ ap (λ (j : ℕ). wrapped (pos j)) e ∙ ap read (sym signed)
