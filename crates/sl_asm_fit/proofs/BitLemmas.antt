-- Bytes of a number, and what is known of them.
use Rattle.std.proofs.Common.{◌≡◌, ℕ, ◌+◌, ◌-◌, ◌*◌, ◌/◌, ◌%◌, ◌^◌, ◌<◌, ◌≤◌, min, bit_and, arith, sym, ap, ◌∙◌, inl, inr}
use Rattle.std.specs.Int.{bit_at, trailing_zeros, w128}
use Rattle.std.proofs.Math.Nat.{div-div-eq-div-mul}
use Rattle.std.proofs.lemmas.Bool.{cases_lt}
use Rattle.std.proofs.lemmas.Nat.{pow-add}
use Rattle.std.proofs.lemmas.Nat.Bits.{bit_at_above, bit_at_and, bit_at-lt, bit_at-trailing_zeros, bit_at-zero, bit_at_ones, same_from_bits}
use Rattle.sl_asm_fit.specs.Cells.{Fits, IsByteOf}
use Rattle.sl_asm_fit.specs.declared.Cell.{Cell}
use Rattle.sl_cube.specs.declared.Cube.{Cube}

bit_at_shifted : (n a r : ℕ) → bit_at (n / 2 ^ a) r ≡ bit_at n (a + r)
bit_at_shifted n a r = ap (λ (x : ℕ). x % 2) (div-div-eq-div-mul n (2 ^ a) (2 ^ r)) ∙ ap (λ (x : ℕ). n / x % 2) (sym (pow-add 2 a r))

min_one : (a b : ℕ) → a < 2 → b ≡ 1 → min a b ≡ a
min_one a b small one = omega (arith, small, one)

-- a bit of the low byte of a number that is shifted
pub low_byte : (n s j : ℕ) → j < 8 → bit_at (bit_and (n / 2 ^ s) 255) j ≡ bit_at n (s + j)
low_byte n s j lt = bit_at_and (n / 2 ^ s) 255 j ∙ min_one (bit_at (n / 2 ^ s) j) (bit_at 255 j) (bit_at-lt (n / 2 ^ s) j) (bit_at_ones 8 j lt) ∙ bit_at_shifted n s j

min_none : (a b : ℕ) → a ≡ 0 → min a b ≡ a
min_none a b none = omega (arith, none)

-- a byte of a value lies within that of its mask
pub byte_within : (value mask v m s : ℕ) → bit_and value mask ≡ value → v < 256
    → ((j : ℕ) → j < 8 → bit_at v j ≡ bit_at value (s + j)) → ((j : ℕ) → j < 8 → bit_at m j ≡ bit_at mask (s + j)) → bit_and v m ≡ v
byte_within value mask v m s within byte at_v at_m = same_from_bits (bit_and v m) v (λ j. bit_at_and v m j ∙ elim (cases_lt j 8) [
  | inl lt ↦
      let whole : min (bit_at value (s + j)) (bit_at mask (s + j)) ≡ bit_at value (s + j) =
      sym (bit_at_and value mask (s + j)) ∙ ap (λ (x : ℕ). bit_at x (s + j)) within in
      ap (λ (x : ℕ). min x (bit_at m j)) (at_v j lt) ∙ ap (λ (x : ℕ). min (bit_at value (s + j)) x) (at_m j lt) ∙ whole ∙ sym (at_v j lt)
  | inr past ↦ min_none (bit_at v j) (bit_at m j) (bit_at_above v 8 j byte past)
])

-- The byte has each bit that the cube fixes of the one at the index.
abbrev pub HasByteOf : Cube → ℕ → ℕ → Type 0
HasByteOf cube k x = (j : ℕ) → j < 8 → bit_at cube.mask (8 * (15 - k) + j) ≡ 1 → bit_at x j ≡ bit_at cube.value (8 * (15 - k) + j)

pub byte_from_fits : (cube : Cube) (k x : ℕ) (c : Cell) → IsByteOf cube k c → Fits c x → HasByteOf cube k x
byte_from_fits cube k x c is fits = λ j lt on. fits j (is.mask j lt ∙ on) ∙ is.value j lt

zero_one : (b : ℕ) → b ≡ 0 → b ≡ 1 → ⊥
zero_one b off on = omega (arith, off, on)

pub fits_from_byte : (cube : Cube) (k x : ℕ) (c : Cell) → IsByteOf cube k c → HasByteOf cube k x → Fits c x
fits_from_byte cube k x c is has = λ j on. elim (cases_lt j 8) [
  | inl lt ↦ has j lt (sym (is.mask j lt) ∙ on) ∙ sym (is.value j lt)
  | inr past ↦ absurd (zero_one (bit_at c.mask j) (bit_at_above c.mask 8 j is.byte past) on)
]

-- ---- bytes of which nothing is fixed

unfixed : (cube : Cube) (k x : ℕ) → ((j : ℕ) → j < 8 → bit_at cube.mask (8 * (15 - k) + j) ≡ 0) → HasByteOf cube k x
unfixed cube k x none = λ j lt on. absurd (zero_one (bit_at cube.mask (8 * (15 - k) + j)) (none j lt) on)

pub none_fixed : (cube : Cube) (k x : ℕ) → cube.mask ≡ 0 → HasByteOf cube k x
none_fixed cube k x none = unfixed cube k x (λ j lt. ap (λ (n : ℕ). bit_at n (8 * (15 - k) + j)) none ∙ bit_at-zero (8 * (15 - k) + j))

-- a byte past the one with the lowest 1 of the mask
pub past_fixed : (cube : Cube) (n k x : ℕ) → 0 < cube.mask → cube.mask < 2 ^ 128 → 16 - trailing_zeros w128 cube.mask / 8 ≤ n → n ≤ k → k < 16 → HasByteOf cube k x
past_fixed cube n k x some fits end past below = unfixed cube k x (λ j lt.
    (bit_at-trailing_zeros w128 cube.mask some fits).2 (8 * (15 - k) + j) (omega (arith, end, past, below, lt)))
