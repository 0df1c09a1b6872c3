-- How many bytes a number needs.
use Rattle.std.proofs.Common.{◌≡◌, ℕ, ◌*◌, ◌/◌, ◌^◌, ◌<◌, ◌≤◌, arith}
use Rattle.std.proofs.Math.Nat.{div-eq_of_lt, div-lt_iff_lt-mul}
use Rattle.std.proofs.Math.Pow.{pow_pos}
use Rattle.sl_word.proofs.Powers.{bytes-bits, bytes_mono}

-- a 64-bit number needs no more than 8
pub below_wide : (number bytes : ℕ) → number < 2 ^ 64 → 8 ≤ bytes → number < 256 ^ bytes
below_wide number bytes fits wide = omega (arith, bytes_mono 8 bytes wide)

-- where nothing is left above them
pub below_narrow : (number bytes : ℕ) → number / 2 ^ (8 * bytes) ≡ 0 → number < 256 ^ bytes
below_narrow number bytes none =
    rw (bytes-bits bytes) (omega (arith, (div-lt_iff_lt-mul {x = number} {y = 1} (pow_pos (8 * bytes))).0 (omega arith)))

pub none_above : (number bytes : ℕ) → number < 256 ^ bytes → number / 2 ^ (8 * bytes) ≡ 0
none_above number bytes below = div-eq_of_lt (rw (← bytes-bits bytes) below)
