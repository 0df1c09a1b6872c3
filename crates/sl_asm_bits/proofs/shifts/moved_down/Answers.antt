use Rattle.std.proofs.Common.{◌≡◌, ◌∙◌, ap, subst, sym}
use Rattle.std.specs.Prelude.{ℤ, FitsSigned}
use Rattle.std.specs.Int.{cast_signed, cast_unsigned, int_shr, w64}
use Rattle.std.proofs.Math.Facts.{sfits_to_z}
use Rattle.std.proofs.lemmas.Int.{to_z-of_z}
use Rattle.sl_asm_bits.proofs.ShiftLemmas.{moved_at, shr_fits}
use Rattle.sl_asm_bits.proofs.shifts.moved_down.Goals as goal

pub returns : goal.returns
returns c =
    let n = c.args.bits in
    let k = c.args.amount in
    let z = c.cast_signed.result in
    let signed : FitsSigned w64 (cast_signed w64 n) = sfits_to_z {w = w64} {n = n} c.ranges.bits in
    let fits : FitsSigned w64 z = subst (FitsSigned w64) (sym c.cast_signed.ensures) signed in
    let down : FitsSigned w64 (int_shr z k) = shr_fits z k fits in
    let moved : c.cast_unsigned.result ≡ cast_unsigned w64 (int_shr z k) =
    simp to_z-of_z at c.cast_unsigned.ensures in
    let is : c.cast_unsigned.result ≡ cast_unsigned w64 (int_shr (cast_signed w64 n) k) = moved ∙ ap (λ (x : ℤ). cast_unsigned w64 (int_shr x k)) c.cast_signed.ensures in
    λ i lt. moved_at n k c.cast_unsigned.result i c.ranges.bits.fits c.requires lt is
