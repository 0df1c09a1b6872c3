-- Numbers of n bytes: 256 ^ n is a power of 2.
use Rattle.std.proofs.Common.{◌≡◌, ℕ, zero, suc, ◌+◌, ◌-◌, ◌*◌, ◌/◌, ◌%◌, ◌^◌, ◌<◌, ◌≤◌, refl, sym, ◌∙◌, ap, subst, inl, inr, arith}
use Rattle.std.proofs.Math.Nat.{pow-suc, pow-le-pow_right, div-eq_of_lt, lt_of_lt_of_le, mul_assoc, mul-mod_left}
use Rattle.std.proofs.Math.Pow.{pow_pos, pow_mono, pow-add, mod-mod-pow}
use Rattle.std.proofs.lemmas.Nat.Bits.{ones_shr}
use Rattle.std.proofs.lemmas.Nat.{and_mask, mod_below, leading_length, or_lt, xor_lt}
use Rattle.std.proofs.lemmas.Bool.{cases_lt}
use Rattle.std.specs.Int.Count.{count_leading_zeros}
use Rattle.std.specs.Int.Bits.{bit_and, bit_or, bit_xor}

pub bytes-bits : (n : ℕ) → 256 ^ n ≡ 2 ^ (8 * n)
bytes-bits zero = refl
bytes-bits (suc n) =
    let bits : 8 * n + 8 ≡ 8 * suc n = omega arith in
    pow-suc 256 n ∙ ap (λ x. x * 256) (bytes-bits n) ∙ sym (pow-add 2 (8 * n) 8) ∙ ap (λ k. 2 ^ k) bits

pub bytes_pos : (n : ℕ) → 0 < 256 ^ n
bytes_pos n = rw (bytes-bits n) (pow_pos (8 * n))

pub bytes_mono : (m n : ℕ) → m ≤ n → 256 ^ m ≤ 256 ^ n
bytes_mono m n h = pow-le-pow_right (omega arith) h

-- the greatest number of n bytes, as it is shifted out of that of w bits
pub greatest-shift : (w n k : ℕ) → k ≡ 8 * n → 8 * n ≤ w → (2 ^ w - 1) / 2 ^ (w - k) + 1 ≡ 256 ^ n
greatest-shift w n k e h =
    let within : w - k ≤ w = omega arith in
    let back : w - (w - k) ≡ 8 * n = omega arith in
    rw (ones_shr w (w - k) within, back, bytes-bits n) (omega (arith, pow_pos (8 * n)))

-- the low bytes of a number, by a mask
pub low-mask : (v m n : ℕ) → m + 1 ≡ 256 ^ n → bit_and v m ≡ v % 256 ^ n
low-mask v m n e =
    let mask : m ≡ 2 ^ (8 * n) - 1 = omega (arith, bytes-bits n) in
    rw (mask, bytes-bits n) (and_mask v (8 * n))

-- what is cut to more bits first
pub low-wrap : (v w n : ℕ) → 8 * n ≤ w → v % 2 ^ w % 256 ^ n ≡ v % 256 ^ n
low-wrap v w n h =
    let whole : (w - 8 * n) + 8 * n ≡ w = omega arith in
    let e : 2 ^ ((w - 8 * n) + 8 * n) ≡ 2 ^ w = ap (λ k. 2 ^ k) whole in
    let P : ℕ → Type 0 = λ x. v % x % 256 ^ n ≡ v % 256 ^ n in
    subst P e (rw (bytes-bits n) (mod-mod-pow v (w - 8 * n) (8 * n)))

-- a shift past the width leaves nothing
pub shr-past : (v w k : ℕ) → v < 2 ^ w → w ≤ k → v / 2 ^ k ≡ 0
shr-past v w k below past = div-eq_of_lt (lt_of_lt_of_le below (pow_mono past))

pub shl-past : (v n k : ℕ) → 8 * n ≤ k → v * 2 ^ k % 256 ^ n ≡ 0
shl-past v n k past =
    let e : k ≡ (k - 8 * n) + 8 * n = omega arith in
    let P : ℕ → Type 0 = λ x. v * 2 ^ x % 256 ^ n ≡ 0 in
    subst P (sym e)
    (rw (pow-add 2 (k - 8 * n) (8 * n), ← bytes-bits n, ← mul_assoc v (2 ^ (k - 8 * n)) (256 ^ n))
    (mul-mod_left (v * 2 ^ (k - 8 * n)) (256 ^ n)))

pub low-mask_below : (v m n : ℕ) → m + 1 ≡ 256 ^ n → bit_and v m < 256 ^ n
low-mask_below v m n e = rw (low-mask v m n e) (mod_below v (256 ^ n) (bytes_pos n))

-- a byte fits each size
pub byte_below : (v n : ℕ) → v < 256 → 1 ≤ n → v < 256 ^ n
byte_below v n h one = omega (arith, bytes_mono 1 n one)

-- the shift that drops whole bytes
pub drop-bytes : (v k : ℕ) → v / 2 ^ (8 * k) ≡ v / 256 ^ k
drop-bytes v k = rw (bytes-bits k)

-- A number has one length in bits.
longest : (v i j : ℕ) → v < 2 ^ i → 2 ^ j ≤ 2 * v + 1 → j ≤ i
longest v i j below above =
    elim (cases_lt i j) [
      | inl h ↦ omega (arith, pow_mono {i = suc i} {j = j} h, pow-suc 2 i)
      | inr h ↦ h
    ]

-- The zeros above a number's highest 1 are more by the bits that are added above it.
pub leading-wider : (v n : ℕ) → n ≤ 16 → v < 256 ^ n → count_leading_zeros 128 v ≡ count_leading_zeros (8 * n) v + (128 - 8 * n)
leading-wider v n h below =
    let short : v < 2 ^ (8 * n) = rw (← bytes-bits n) below in
    let wide : v < 2 ^ 128 = lt_of_lt_of_le short (pow_mono {i = 8 * n} {j = 128} (omega arith)) in
    let a = leading_length (8 * n) v short in
    let b = leading_length 128 v wide in
    omega (arith, longest v a.0 b.0 a.2 b.3, longest v b.0 a.0 b.2 a.3, a.1, b.1)

-- the count of the numbers of n bytes is even
pub bytes_even : (n : ℕ) → 1 ≤ n → 256 ^ n ≡ 2 * (256 ^ n / 2)
bytes_even zero h = omega arith
bytes_even (suc n) h = omega (arith, pow-suc 256 n)

-- numbers of n bytes, bit by bit
pub or_below : (n a b : ℕ) → a < 256 ^ n → b < 256 ^ n → bit_or a b < 256 ^ n
or_below n a b ha hb = rw (bytes-bits n) (or_lt (8 * n) a b (rw (← bytes-bits n) ha) (rw (← bytes-bits n) hb))

pub xor_below : (n a b : ℕ) → a < 256 ^ n → b < 256 ^ n → bit_xor a b < 256 ^ n
xor_below n a b ha hb = rw (bytes-bits n) (xor_lt (8 * n) a b (rw (← bytes-bits n) ha) (rw (← bytes-bits n) hb))
