-- Bits of fields, and their values in two's complement.
use Rattle.std.proofs.Common.{◌≡◌, ℕ, suc, ◌+◌, ◌-◌, ◌*◌, ◌/◌, ◌%◌, ◌^◌, ◌<◌, ◌≤◌, min, bit_and, bit_or, Bool, true, false, arith, refl, sym, ap, subst, ◌∙◌, inl, inr}
use Rattle.std.specs.Prelude.{ℤ, pos, negsuc, nat_lt, if◌then◌else◌, FitsSigned}
use Rattle.std.specs.Int.{bit_at, cast_signed, cast_unsigned, int_shr, w64}
use Rattle.std.proofs.Math.Facts.{Fits-of_lt, sfits_to_z, to_z-neg}
use Rattle.std.proofs.Math.Nat.{mod-eq_of_lt, pow-le-pow_right}
use Rattle.std.proofs.lemmas.Bool.{cases_lt, lt-ltb}
use Rattle.std.proofs.lemmas.Int.{of_z-to_z, to_z_pos}
use Rattle.std.proofs.lemmas.Nat.{div-mul-add, mod_below, mul-le, or_lt, pow-add, pow_pos, shl-shr, shl_below, shr_le, shr_split}
use Rattle.std.proofs.lemmas.Nat.Bits.{bit_at_above, bit_at_cat_low, bit_at_not, bit_at_ones, bit_at_ones_above, bit_at-lt}
use Rattle.sl_asm_bits.proofs.BitLemmas.{at_and, at_or, one_of_64}
use Rattle.sl_asm_bits.proofs.NumberLemmas.{signed_has}
use Rattle.sl_asm_bits.proofs.ShiftLemmas.{moved_at, raised_high, shifted_at, shr_fits}
use Rattle.sl_asm_bits.specs.Known.{Has, HasBits}
use Rattle.sl_asm_bits.specs.declared.Known.{Known}
use Rattle.sl_asm_known.specs.FieldBits.{HasKnownBits}
use Rattle.sl_cube.specs.Bits.{Agrees}
use Rattle.sl_spec.proofs.FieldLemmas.{signed_value, unsigned_value}
use Rattle.sl_spec.specs.FieldValues.{bits_of, signed_of, value_of}
use Rattle.sl_spec.specs.Tables.{Field}

-- ---- the bits of a field

mod_at : (n k i : ℕ) → i < k → bit_at (n % 2 ^ k) i ≡ bit_at n i
mod_at n k i lt = sym (bit_at_cat_low (n / 2 ^ k) k (n % 2 ^ k) i lt) ∙ ap (λ (x : ℕ). bit_at x i) (shr_split n k)

pub bits_small : (low high n : ℕ) → bits_of low high n < 2 ^ (suc high - low)
bits_small low high n = mod_below (n / 2 ^ low) (2 ^ (suc high - low)) (pow_pos (suc high - low))

module _ (m v n low high field : ℕ) (mf : m < 2 ^ 64) (ff : field < 2 ^ 64) (is : field ≡ 2 ^ (suc high - low) - 1) (f : Agrees m v n) where
  abbrev part_mask : ℕ
  part_mask = bit_or (m / 2 ^ low) (2 ^ 64 - 1 - field)

  mask_small : part_mask < 2 ^ 64
  mask_small = or_lt 64 (m / 2 ^ low) (2 ^ 64 - 1 - field) (omega (arith, mf, shr_le m low)) (omega arith)

  one_at : (i : ℕ) → i < suc high - low → bit_at field i ≡ 1
  one_at i lt = ap (λ (x : ℕ). bit_at x i) is ∙ bit_at_ones (suc high - low) i lt

  none_at : (i : ℕ) → suc high - low ≤ i → bit_at field i ≡ 0
  none_at i past = ap (λ (x : ℕ). bit_at x i) is ∙ bit_at_ones_above (suc high - low) i past

  pub part_has : Agrees part_mask (bit_and (v / 2 ^ low) field) (bits_of low high n)
  part_has = λ i on.
      let lt = one_of_64 part_mask i mask_small on in
      let value = at_and (v / 2 ^ low) field i (bit_at v (low + i)) (bit_at field i) (shifted_at v low i) (λ j. bit_at field i) in
      elim (cases_lt i (suc high - low)) [
        | inl inside ↦
            let open_off : bit_at (2 ^ 64 - 1 - field) i ≡ 0 = bit_at_not w64 field i ff lt ∙ omega (arith, one_at i inside) in
            let mask = at_or (m / 2 ^ low) (2 ^ 64 - 1 - field) i (bit_at m (low + i)) 0 (shifted_at m low i) open_off in
            let known : bit_at m (low + i) ≡ 1 = omega (arith, mask, on) in
            let whole : min (bit_at v (low + i)) (bit_at field i) ≡ bit_at v (low + i) = omega (arith, one_at i inside, bit_at-lt v (low + i)) in
            mod_at (n / 2 ^ low) (suc high - low) i inside ∙ shifted_at n low i ∙ f (low + i) known ∙ sym whole ∙ sym value
        | inr past ↦
            let none : min (bit_at v (low + i)) (bit_at field i) ≡ 0 = omega (arith, none_at i past) in
            bit_at_above (bits_of low high n) (suc high - low) i (bits_small low high n) past ∙ sym none ∙ sym value
      ]

two_some : 0 < 2
two_some = omega arith

within : (w r : ℕ) → w ≤ 64 → r < 2 ^ w → r < 2 ^ 64
within w r most small = let le : 2 ^ w ≤ 2 ^ 64 = pow-le-pow_right two_some most in omega (arith, le, small)

-- ---- an unsigned field

pub unsigned_has : (f : Field) (n : ℕ) (k : Known) → f.signed ≡ false → suc f.high - f.low ≤ 64 → Has k (bits_of f.low f.high n) → HasBits k (value_of f n)
unsigned_has f n k plain most h =
    let r : ℕ = bits_of f.low f.high n in
    let small : r < 2 ^ 64 = within (suc f.high - f.low) r most (bits_small f.low f.high n) in
    subst (HasBits k) (unsigned_value f n r plain small refl) (signed_has k r small h)

-- ---- a signed field

not_lt : (a b : ℕ) → b ≤ a → nat_lt a b ≡ false
not_lt a b le = grind arith

module _ (r w up : ℕ) (inside : r < 2 ^ w) (whole : w + up ≡ 64) (some : 1 ≤ w) where
  split : 2 ^ w * 2 ^ up ≡ 2 ^ 64
  split = sym (pow-add 2 w up) ∙ ap (λ (k : ℕ). 2 ^ k) whole

  fits : r * 2 ^ up < 2 ^ 64
  fits = subst (λ (x : ℕ). r * 2 ^ up < x) (ap (λ (k : ℕ). 2 ^ k) whole) (shl_below r w up inside)

  no_cut : r * 2 ^ up % 2 ^ 64 ≡ r * 2 ^ up
  no_cut = mod-eq_of_lt fits

  halved : 2 * 2 ^ (w - 1) ≡ 2 ^ w
  halved = let e : 1 + (w - 1) ≡ w = omega (arith, some) in sym (pow-add 2 1 (w - 1)) ∙ ap (λ (k : ℕ). 2 ^ k) e

  below_half : (q : ℕ) → q < 2 ^ (w - 1) → q * 2 ^ up < 2 ^ 63
  below_half q lt =
      let e : w - 1 + up ≡ 63 = omega (arith, some, whole) in
      subst (λ (x : ℕ). q * 2 ^ up < x) (ap (λ (k : ℕ). 2 ^ k) e) (shl_below q (w - 1) up lt)

  small_part : (q : ℕ) → q + 1 ≤ 2 ^ (w - 1) → q * 2 ^ up + (2 ^ up - 1) < 2 ^ 63
  small_part q le =
      let e : w - 1 + up ≡ 63 = omega (arith, some, whole) in
      let some_up : 0 < 2 ^ up = pow_pos up in
      let most : (q + 1) * 2 ^ up ≤ 2 ^ (w - 1) * 2 ^ up = mul-le (q + 1) (2 ^ up) (2 ^ (w - 1)) (2 ^ up) le (omega arith) in
      let all : 2 ^ (w - 1) * 2 ^ up ≡ 2 ^ 63 = sym (pow-add 2 (w - 1) up) ∙ ap (λ (k : ℕ). 2 ^ k) e in
      omega (arith, most, all, some_up)

  low_moved : 2 * r < 2 ^ w → int_shr (cast_signed w64 (r * 2 ^ up % 2 ^ 64)) up ≡ signed_of w r
  low_moved lt =
      let under : r < 2 ^ (w - 1) = omega (arith, lt, halved) in
      ap (λ (x : ℕ). int_shr (cast_signed w64 x) up) no_cut ∙ ap (λ (z : ℤ). int_shr z up) (to_z_pos w64 (r * 2 ^ up) (below_half r under)) ∙ ap pos (shl-shr r up)
      ∙ sym (ap (λ (b : Bool). if b then pos r else negsuc (2 ^ w - 1 - r)) (lt-ltb (2 * r) (2 ^ w) lt))

  abbrev rest : ℕ
  rest = 2 ^ w - 1 - r

  filled : 2 ^ w ≡ rest + 1 + r
  filled = omega (arith, inside)

  spread : (rest + 1 + r) * 2 ^ up ≡ 2 ^ 64
  spread = ap (λ (x : ℕ). x * 2 ^ up) (sym filled) ∙ split

  high_moved : 2 ^ w ≤ 2 * r → int_shr (cast_signed w64 (r * 2 ^ up % 2 ^ 64)) up ≡ signed_of w r
  high_moved le =
      let some_up : 0 < 2 ^ up = pow_pos up in
      let under : rest + 1 ≤ 2 ^ (w - 1) = omega (arith, le, halved, inside) in
      let k : ℕ = rest * 2 ^ up + (2 ^ up - 1) in
      let last : 2 ^ up - 1 < 2 ^ up = omega (arith, some_up) in
      let sum : rest * 2 ^ up + 2 ^ up + r * 2 ^ up ≡ 2 ^ 64 = omega (arith, spread) in
      let small : k < 2 ^ 63 = small_part rest under in
      let is : r * 2 ^ up ≡ 2 ^ 64 - suc k = omega (arith, sum, some_up) in
      ap (λ (x : ℕ). int_shr (cast_signed w64 x) up) (no_cut ∙ is) ∙ ap (λ (z : ℤ). int_shr z up) (to_z-neg w64 k small) ∙ ap negsuc (div-mul-add rest (2 ^ up) (2 ^ up - 1) last)
      ∙ sym (ap (λ (b : Bool). if b then pos r else negsuc rest) (not_lt (2 * r) (2 ^ w) le))

  pub signed_moved : int_shr (cast_signed w64 (r * 2 ^ up % 2 ^ 64)) up ≡ signed_of w r
  signed_moved = elim (cases_lt (2 * r) (2 ^ w)) [
    | inl lt ↦ low_moved lt
    | inr le ↦ high_moved le
  ]

-- ---- a field's bits, by its own value or by its code

pub part_bit : (low high n i : ℕ) → i < suc high - low → bit_at (bits_of low high n) i ≡ bit_at n (low + i)
part_bit low high n i lt = mod_at (n / 2 ^ low) (suc high - low) i lt ∙ shifted_at n low i

pub code_known : (f : Field) (k : Known) (n : ℕ) → Has k (bits_of f.low f.high n) → HasKnownBits f k n
code_known f k n h = λ i lt on. sym (part_bit f.low f.high n i lt) ∙ h i on

module _ (f : Field) (n : ℕ) (some : 1 ≤ suc f.high - f.low) (most : suc f.high - f.low ≤ 64) where
  abbrev wide : ℕ
  wide = suc f.high - f.low

  abbrev code : ℕ
  code = bits_of f.low f.high n

  abbrev up : ℕ
  up = 64 - wide

  moved : ℕ
  moved = code * 2 ^ up % 2 ^ 64

  pub own_bit : (signed : Bool) → f.signed ≡ signed → (i : ℕ) → i < wide → bit_at (cast_unsigned w64 (value_of f n)) i ≡ bit_at n (f.low + i)
  unfolding moved
  own_bit false plain i lt =
      let small : code < 2 ^ 64 = within wide code most (bits_small f.low f.high n) in
      ap (λ (z : ℤ). bit_at (cast_unsigned w64 z) i) (sym (unsigned_value f n code plain small refl))
      ∙ ap (λ (x : ℕ). bit_at x i) (of_z-to_z w64 code small) ∙ part_bit f.low f.high n i lt
  own_bit true signed i lt =
      let whole : wide + up ≡ 64 = omega (arith, most) in
      let low : up < 64 = omega (arith, some, most) in
      let small : moved < 2 ^ 64 = omega arith in
      let there : i < 64 = omega (arith, lt, most) in
      let z : ℤ = int_shr (cast_signed w64 moved) up in
      let fits : FitsSigned w64 z = shr_fits (cast_signed w64 moved) up (sfits_to_z {w = w64} {n = moved} (Fits-of_lt {w = w64} {n = moved} small)) in
      let is : z ≡ value_of f n = signed_value f n z signed fits (signed_moved code wide up (bits_small f.low f.high n) whole some) in
      let place : min (i + up) 63 ≡ i + up = omega (arith, lt, most) in
      let above : i + up < 64 = omega (arith, lt, most) in
      let past : up ≤ i + up = omega arith in
      let back : i + up - up ≡ i = omega arith in
      ap (λ (y : ℤ). bit_at (cast_unsigned w64 y) i) (sym is) ∙ moved_at moved up (cast_unsigned w64 z) i small low there refl
      ∙ ap (λ (j : ℕ). bit_at moved j) place ∙ raised_high code up (i + up) above past ∙ ap (λ (j : ℕ). bit_at code j) back
      ∙ part_bit f.low f.high n i lt

  pub own_known : (k : Known) → HasBits k (value_of f n) → HasKnownBits f k n
  own_known k h = λ i lt on. sym (own_bit f.signed refl i lt) ∙ h.bits i on

pub signed_field : (f : Field) (n up : ℕ) (k : Known) → f.signed ≡ true → 1 ≤ suc f.high - f.low → suc f.high - f.low + up ≡ 64
    → HasBits k (int_shr (cast_signed w64 (bits_of f.low f.high n * 2 ^ up % 2 ^ 64)) up) → HasBits k (value_of f n)
signed_field f n up k signed some whole h =
    let r : ℕ = bits_of f.low f.high n in
    let z : ℤ = int_shr (cast_signed w64 (r * 2 ^ up % 2 ^ 64)) up in
    subst (HasBits k) (signed_value f n z signed h.fits (signed_moved r (suc f.high - f.low) up (bits_small f.low f.high n) whole some)) h
