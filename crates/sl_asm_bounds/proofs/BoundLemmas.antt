-- Bounds of lengths, and numbers below their powers.
use Rattle.std.proofs.Common.{◌≡◌, ℕ, zero, suc, ◌*◌, ◌<◌, ◌≤◌, ◌^◌, max, arith}
use Rattle.sl_asm_bounds.specs.Bounds.{IsUpTo}

pub self_below : (x : ℕ) → x < 2 ^ x
self_below zero = omega arith
self_below (suc x) =
    let before = self_below x in
    let double : 2 ^ suc x ≡ 2 * 2 ^ x = omega arith in
    omega (arith, before, double)

pub up_first : (a b n : ℕ) → IsUpTo a n → IsUpTo (max a b) n
up_first a b n h = λ below. let within : n ≤ a = h (omega (arith, below)) in omega (arith, within)

pub up_second : (a b n : ℕ) → IsUpTo b n → IsUpTo (max a b) n
up_second a b n h = λ below. let within : n ≤ b = h (omega (arith, below)) in omega (arith, within)
