-- The low 64 bits of a value.
use Rattle.std.proofs.Common.{◌≡◌, ℕ, ◌-◌, ◌%◌, ◌<◌, ◌^◌, ℤ, pos, negsuc, of_z, to_z, ap, sym, ◌∙◌, arith}
use Rattle.std.proofs.Math.IntN.{nat_abs}
use Rattle.std.proofs.lemmas.Int.{fits_signed_from_abs, of_z-to_z, to_z-of_z}
use Rattle.std.specs.Int.{int_rem_euclid, int_wrap, w64, w128}
use Rattle.std.proofs.lemmas.Nat.{mod_below, pow_pos}
use Rattle.sl_spec_operators.specs.Operators.{wrapped}

small : (m : ℕ) → m < 2 ^ 64 → nat_abs (to_z w128 (of_z w128 (pos m))) ≡ of_z w64 (to_z w64 m)
small m h =
    ap nat_abs (to_z-of_z w128 (pos m) (fits_signed_from_abs w128 (pos m) (omega (arith, h))))
    ∙ sym (of_z-to_z w64 m h)

pub low_bits : (z r : ℤ) → r ≡ int_rem_euclid z (pos (2 ^ 64))
    → nat_abs (to_z w128 (of_z w128 r)) ≡ of_z w64 (wrapped z)
unfolding int_wrap
low_bits (pos a) r is = rw is (small (a % 2 ^ 64) (mod_below a (2 ^ 64) (pow_pos 64)))
low_bits (negsuc a) r is = rw is (small (2 ^ 64 - 1 - a % 2 ^ 64) (omega arith))
