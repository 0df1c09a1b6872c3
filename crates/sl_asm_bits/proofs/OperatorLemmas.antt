-- Operators on 64-bit two's complement, by the bits of their sides.
use Rattle.std.proofs.Common.{◌≡◌, ℕ, suc, ◌+◌, ◌-◌, ◌*◌, ◌%◌, ◌^◌, ◌<◌, ◌≤◌, Bool, false, arith, sym, ap, ◌∙◌, subst, inl, inr}
use Rattle.std.specs.Prelude.{ℤ, pos, negsuc, neg_ℤ, ◌+ℤ◌, ◌-ℤ◌, ◌*ℤ◌, FitsSigned, nat_lt, if◌then◌else◌}
use Rattle.std.specs.Int.{cast_signed, cast_unsigned, int_shl, int_shr, w64}
use Rattle.std.proofs.Math.Facts.{Fits-of_lt, sfits_to_z, to_z-neg}
use Rattle.std.proofs.lemmas.Bool.{cases_lt, lt-ltb}
use Rattle.std.proofs.lemmas.Int.{ints, to_z-of_z, to_z_pos, wrapping_add_is, wrapping_mul_is, wrapping_neg_is, wrapping_sub_is}
use Rattle.sl_asm_bits.proofs.NumberLemmas.{signed_has, unsigned_fits}
use Rattle.sl_asm_bits.proofs.ShiftLemmas.{shr_fits}
use Rattle.sl_asm_bits.specs.Known.{Has, HasBits}
use Rattle.sl_asm_bits.specs.declared.Known.{Known}
use Rattle.sl_spec_operators.specs.Operators.{left_by, right_by, wrapped}

module _ (k : Known) (x y : ℤ) (fx : FitsSigned w64 x) (fy : FitsSigned w64 y) where
  abbrev m : ℕ
  m = cast_unsigned w64 x

  abbrev n : ℕ
  n = cast_unsigned w64 y

  pub added_has : Has k ((m + n + 0) % 2 ^ 64) → HasBits k (wrapped (x +ℤ y))
  added_has f =
      let same : (m + n + 0) % 2 ^ 64 ≡ (m + n) % 2 ^ 64 = omega arith in
      subst (HasBits k) (wrapping_add_is w64 x y fx fy) (signed_has k ((m + n) % 2 ^ 64) (omega arith) (subst (λ (v : ℕ). Has k v) same f))

  pub subtracted_has : Has k ((m + (2 ^ 64 - 1 - n) + 1) % 2 ^ 64) → HasBits k (wrapped (x -ℤ y))
  subtracted_has f =
      let small : n < 2 ^ 64 = unsigned_fits y fy in
      let same : (m + (2 ^ 64 - 1 - n) + 1) % 2 ^ 64 ≡ (m + (2 ^ 64 - n)) % 2 ^ 64 = omega (arith, small) in
      subst (HasBits k) (wrapping_sub_is w64 x y fx fy) (signed_has k ((m + (2 ^ 64 - n)) % 2 ^ 64) (omega arith) (subst (λ (v : ℕ). Has k v) same f))

  pub multiplied_has : Has k (m * n % 2 ^ 64) → HasBits k (wrapped (x *ℤ y))
  multiplied_has f = subst (HasBits k) (wrapping_mul_is w64 x y fx fy) (signed_has k (m * n % 2 ^ 64) (omega arith) f)

pub negated_has : (k : Known) (x : ℤ) → FitsSigned w64 x → Has k ((0 + (2 ^ 64 - 1 - cast_unsigned w64 x) + 1) % 2 ^ 64) → HasBits k (wrapped (neg_ℤ x))
negated_has k x fx f =
    let n : ℕ = cast_unsigned w64 x in
    let small : n < 2 ^ 64 = unsigned_fits x fx in
    let same : (0 + (2 ^ 64 - 1 - n) + 1) % 2 ^ 64 ≡ (2 ^ 64 - n) % 2 ^ 64 = omega (arith, small) in
    subst (HasBits k) (wrapping_neg_is w64 x fx) (signed_has k ((2 ^ 64 - n) % 2 ^ 64) (omega arith) (subst (λ (v : ℕ). Has k v) same f))

complement_is : (x : ℤ) → FitsSigned w64 x → cast_signed w64 (2 ^ 64 - 1 - cast_unsigned w64 x) ≡ negsuc 0 -ℤ x
complement_is (pos n) fits =
    let small : n < 2 ^ 63 = fits.sfits in
    let bits : 2 ^ 64 - 1 - n ≡ 2 ^ 64 - suc n = omega arith in
    let is : negsuc n ≡ negsuc 0 -ℤ pos n = omega (arith, ints) in
    ap (cast_signed w64) bits ∙ to_z-neg w64 n small ∙ is
complement_is (negsuc n) fits =
    let small : n < 2 ^ 63 = fits.sfits in
    let bits : 2 ^ 64 - 1 - (2 ^ 64 - suc n) ≡ n = omega (arith, small) in
    let is : pos n ≡ negsuc 0 -ℤ negsuc n = omega (arith, ints) in
    ap (cast_signed w64) bits ∙ to_z_pos w64 n small ∙ is

pub complement_has : (k : Known) (x : ℤ) → FitsSigned w64 x → Has k (2 ^ 64 - 1 - cast_unsigned w64 x) → HasBits k (negsuc 0 -ℤ x)
complement_has k x fx f = subst (HasBits k) (complement_is x fx) (signed_has k (2 ^ 64 - 1 - cast_unsigned w64 x) (omega arith) f)

-- ---- shifts

left_below : (x : ℤ) (n : ℕ) → n < 64 → left_by x n ≡ int_shl w64 x n
left_below x n lt = ap (λ (b : Bool). if b then int_shl w64 x n else pos 0) (lt-ltb n 64 lt)

right_below : (x : ℤ) (n : ℕ) → n < 64 → right_by x n ≡ int_shr x n
right_below x n lt = ap (λ (b : Bool). if b then int_shr x n else int_shr x 63) (lt-ltb n 64 lt)

not_below : (n : ℕ) → 64 ≤ n → nat_lt n 64 ≡ false
not_below n past = grind arith

left_past : (x : ℤ) (n : ℕ) → 64 ≤ n → left_by x n ≡ pos 0
left_past x n past = ap (λ (b : Bool). if b then int_shl w64 x n else pos 0) (not_below n past)

right_past : (x : ℤ) (n : ℕ) → 64 ≤ n → right_by x n ≡ int_shr x 63
right_past x n past = ap (λ (b : Bool). if b then int_shr x n else int_shr x 63) (not_below n past)

shl_fits : (x : ℤ) (n : ℕ) → FitsSigned w64 (int_shl w64 x n)
shl_fits x n = sfits_to_z {w = w64} {n = cast_unsigned w64 x * 2 ^ n % 2 ^ 64} (Fits-of_lt {w = w64} {n = cast_unsigned w64 x * 2 ^ n % 2 ^ 64} (omega arith))

pub left_fits : (x : ℤ) (n : ℕ) → FitsSigned w64 (left_by x n)
left_fits x n = elim (cases_lt n 64) [
  | inl lt ↦ subst (FitsSigned w64) (sym (left_below x n lt)) (shl_fits x n)
  | inr past ↦ subst (FitsSigned w64) (sym (left_past x n past)) (record { sfits = omega arith })
]

pub right_fits : (x : ℤ) (n : ℕ) → FitsSigned w64 x → FitsSigned w64 (right_by x n)
right_fits x n fits = elim (cases_lt n 64) [
  | inl lt ↦ subst (FitsSigned w64) (sym (right_below x n lt)) (shr_fits x n fits)
  | inr past ↦ subst (FitsSigned w64) (sym (right_past x n past)) (shr_fits x 63 fits)
]

-- an amount that is known
pub same_amount : (y amount : ℤ) (n : ℕ) → FitsSigned w64 y → y ≡ amount → n ≡ cast_unsigned w64 (cast_signed w64 (cast_unsigned w64 amount)) → n ≡ cast_unsigned w64 y
same_amount y amount n fits e is = is ∙ ap (cast_unsigned w64) (to_z-of_z w64 amount (subst (FitsSigned w64) e fits) ∙ sym e)

pub left_has : (k : Known) (x : ℤ) (n amount : ℕ) → n ≡ amount → n < 64 → Has k (cast_unsigned w64 x * 2 ^ n % 2 ^ 64) → HasBits k (left_by x amount)
left_has k x n amount e lt f =
    subst (HasBits k) (sym (left_below x n lt) ∙ ap (left_by x) e) (signed_has k (cast_unsigned w64 x * 2 ^ n % 2 ^ 64) (omega arith) f)

pub left_none : (k : Known) (x : ℤ) (n amount : ℕ) → n ≡ amount → 64 ≤ n → HasBits k (pos 0) → HasBits k (left_by x amount)
left_none k x n amount e past h = subst (HasBits k) (sym (left_past x n past) ∙ ap (left_by x) e) h

pub right_has : (k : Known) (x : ℤ) (n amount : ℕ) → n ≡ amount → n < 64 → HasBits k (int_shr x n) → HasBits k (right_by x amount)
right_has k x n amount e lt h = subst (HasBits k) (sym (right_below x n lt) ∙ ap (right_by x) e) h

pub right_all : (k : Known) (x : ℤ) (n amount : ℕ) → n ≡ amount → 64 ≤ n → HasBits k (int_shr x 63) → HasBits k (right_by x amount)
right_all k x n amount e past h = subst (HasBits k) (sym (right_past x n past) ∙ ap (right_by x) e) h
