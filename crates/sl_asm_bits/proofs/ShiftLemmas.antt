-- Shifts, bit by bit.
use Rattle.std.proofs.Common.{◌≡◌, ℕ, ◌+◌, ◌-◌, ◌*◌, ◌/◌, ◌%◌, ◌^◌, ◌<◌, ◌≤◌, suc, min, bit_or, arith, sym, ap, ◌∙◌, inl, inr}
use Rattle.std.specs.Prelude.{ℤ, pos, negsuc, FitsSigned}
use Rattle.std.specs.Int.{bit_at, cast_signed, cast_unsigned, int_shr, w64}
use Rattle.std.proofs.Math.Nat.{div-div-eq-div-mul}
use Rattle.std.proofs.Math.Facts.{Fits-of_lt, sfits_to_z}
use Rattle.std.proofs.lemmas.Bool.{cases_lt}
use Rattle.std.proofs.lemmas.Int.{of_z-to_z}
use Rattle.std.proofs.lemmas.Nat.{or_lt, pow-add, pow_pos, shr_le, shr_split}
use Rattle.std.proofs.lemmas.Nat.Bits.{bit_at-zero, bit_at_above, bit_at_cat_high, bit_at_cat_low, bit_at_not, bit_at_ones_above}
use Rattle.sl_asm_bits.proofs.BitLemmas.{at_or, one_of_64}
use Rattle.sl_cube.specs.Bits.{Agrees}

pub shifted_at : (n a r : ℕ) → bit_at (n / 2 ^ a) r ≡ bit_at n (a + r)
shifted_at n a r = ap (λ (x : ℕ). x % 2) (div-div-eq-div-mul n (2 ^ a) (2 ^ r)) ∙ ap (λ (x : ℕ). n / x % 2) (sym (pow-add 2 a r))

-- a bit of what is left in 64 bits
pub low_at : (n i : ℕ) → i < 64 → bit_at (n % 2 ^ 64) i ≡ bit_at n i
low_at n i lt = sym (bit_at_cat_low (n / 2 ^ 64) 64 (n % 2 ^ 64) i lt) ∙ ap (λ (x : ℕ). bit_at x i) (shr_split n 64)

-- ---- up

with_none : (n k : ℕ) → n * 2 ^ k ≡ n * 2 ^ k + 0
with_none n k = omega arith

pub raised_low : (n k i : ℕ) → i < 64 → i < k → bit_at (n * 2 ^ k % 2 ^ 64) i ≡ 0
raised_low n k i lt below = low_at (n * 2 ^ k) i lt ∙ ap (λ (x : ℕ). bit_at x i) (with_none n k) ∙ bit_at_cat_low n k 0 i below ∙ bit_at-zero i

pub raised_high : (n k i : ℕ) → i < 64 → k ≤ i → bit_at (n * 2 ^ k % 2 ^ 64) i ≡ bit_at n (i - k)
raised_high n k i lt above =
    low_at (n * 2 ^ k) i lt ∙ ap (λ (x : ℕ). bit_at x i) (with_none n k) ∙ bit_at_cat_high n k 0 i (pow_pos k) above

none_above : (low k i : ℕ) → low ≡ 2 ^ k - 1 → k ≤ i → bit_at low i ≡ 0
none_above low k i e above = ap (λ (x : ℕ). bit_at x i) e ∙ bit_at_ones_above k i above

pub raised_has : (m v n k low : ℕ) → low ≡ 2 ^ k - 1 → low < 2 ^ 64 → Agrees m v n
    → Agrees (bit_or (m * 2 ^ k % 2 ^ 64) low) (v * 2 ^ k % 2 ^ 64) (n * 2 ^ k % 2 ^ 64)
raised_has m v n k low is small f = λ i on.
    let lt = one_of_64 (bit_or (m * 2 ^ k % 2 ^ 64) low) i (or_lt 64 (m * 2 ^ k % 2 ^ 64) low (omega arith) small) on in
    elim (cases_lt i k) [
      | inl below ↦ raised_low n k i lt below ∙ sym (raised_low v k i lt below)
      | inr above ↦
          let mask = at_or (m * 2 ^ k % 2 ^ 64) low i (bit_at m (i - k)) 0 (raised_high m k i lt above) (none_above low k i is above) in
          let known : bit_at m (i - k) ≡ 1 = omega (arith, mask, on) in
          raised_high n k i lt above ∙ f (i - k) known ∙ sym (raised_high v k i lt above)
    ]

-- ---- down

down_at : (a k i : ℕ) → a < 2 ^ 63 → bit_at (a / 2 ^ k) i ≡ bit_at a (min (i + k) 63)
down_at a k i small = shifted_at a k i ∙ elim (cases_lt (i + k) 63) [
  | inl lt ↦ let e : k + i ≡ min (i + k) 63 = omega (arith, lt) in ap (λ (j : ℕ). bit_at a j) e
  | inr past ↦
      let first : 63 ≤ k + i = omega (arith, past) in
      let second : 63 ≤ min (i + k) 63 = omega (arith, past) in
      bit_at_above a 63 (k + i) small first ∙ sym (bit_at_above a 63 (min (i + k) 63) small second)
]

div_small : (a k : ℕ) → a < 2 ^ 63 → a / 2 ^ k < 2 ^ 63
div_small a k small = omega (arith, shr_le a k)

not_at : (n i : ℕ) → n < 2 ^ 64 → i < 64 → bit_at (2 ^ 64 - suc n) i ≡ 1 - bit_at n i
not_at n i fits lt = let e : 2 ^ 64 - suc n ≡ 2 ^ 64 - 1 - n = omega arith in ap (λ (x : ℕ). bit_at x i) e ∙ bit_at_not w64 n i fits lt

pub down_bits : (z : ℤ) (k i : ℕ) → FitsSigned w64 z → k < 64 → i < 64 → bit_at (cast_unsigned w64 (int_shr z k)) i ≡ bit_at (cast_unsigned w64 z) (min (i + k) 63)
down_bits (pos a) k i fits low lt = down_at a k i fits.sfits
down_bits (negsuc a) k i fits low lt =
    let small : a < 2 ^ 63 = fits.sfits in
    let part : a / 2 ^ k < 2 ^ 63 = div_small a k small in
    let whole : a < 2 ^ 64 = omega (arith, small) in
    let within : a / 2 ^ k < 2 ^ 64 = omega (arith, part) in
    let there : min (i + k) 63 < 64 = omega arith in
    not_at (a / 2 ^ k) i within lt ∙ (λ j. 1 - down_at a k i small j) ∙ sym (not_at a (min (i + k) 63) whole there)

pub shr_fits : (z : ℤ) (k : ℕ) → FitsSigned w64 z → FitsSigned w64 (int_shr z k)
shr_fits (pos a) k fits = record { sfits = div_small a k fits.sfits }
shr_fits (negsuc a) k fits = record { sfits = div_small a k fits.sfits }

-- the bits of a number whose highest bit is copied as it is moved down
pub moved_at : (n k r i : ℕ) → n < 2 ^ 64 → k < 64 → i < 64 → r ≡ cast_unsigned w64 (int_shr (cast_signed w64 n) k) → bit_at r i ≡ bit_at n (min (i + k) 63)
moved_at n k r i fits low lt e =
    ap (λ (x : ℕ). bit_at x i) e ∙ down_bits (cast_signed w64 n) k i (sfits_to_z {w = w64} {n = n} (Fits-of_lt {w = w64} {n = n} fits)) low lt
    ∙ ap (λ (x : ℕ). bit_at x (min (i + k) 63)) (of_z-to_z w64 n fits)

pub lowered_has : (m v mm vm k : ℕ) (z : ℤ) → mm < 2 ^ 64 → k < 64 → FitsSigned w64 z → Agrees m v (cast_unsigned w64 z)
    → ((i : ℕ) → i < 64 → bit_at mm i ≡ bit_at m (min (i + k) 63)) → ((i : ℕ) → i < 64 → bit_at vm i ≡ bit_at v (min (i + k) 63))
    → Agrees mm vm (cast_unsigned w64 (int_shr z k))
lowered_has m v mm vm k z fits low signed f at_m at_v = λ i on.
    let lt = one_of_64 mm i fits on in
    down_bits z k i signed low lt ∙ f (min (i + k) 63) (sym (at_m i lt) ∙ on) ∙ sym (at_v i lt)
