use Rattle.std.proofs.Common.{◌-◌, ◌^◌, ◌<◌, arith}
use Rattle.std.specs.Int.{cast_unsigned, w64}
use Rattle.sl_asm_bits.proofs.NumberLemmas.{unsigned_fits}
use Rattle.sl_asm_bits.proofs.OperatorLemmas.{subtracted_has}
use Rattle.sl_asm_bits.proofs.operators.subtracted.Goals as goal

pub returns : goal.returns
returns c = λ x y f g.
    let n = cast_unsigned w64 y in
    let small : 2 ^ 64 - 1 - n < 2 ^ 64 = omega arith in
    subtracted_has c.sum.result x y f.fits g.fits
    (c.sum.ensures (cast_unsigned w64 x) (2 ^ 64 - 1 - n) (unsigned_fits x f.fits) small f.bits (c.flipped.ensures n (unsigned_fits y g.fits) g.bits))
