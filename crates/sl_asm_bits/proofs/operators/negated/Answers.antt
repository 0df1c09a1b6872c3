use Rattle.std.proofs.Common.{◌-◌, ◌^◌, ◌<◌, arith}
use Rattle.std.specs.Int.{cast_unsigned, w64}
use Rattle.sl_asm_bits.proofs.NumberLemmas.{unsigned_fits}
use Rattle.sl_asm_bits.proofs.OperatorLemmas.{negated_has}
use Rattle.sl_asm_bits.proofs.operators.negated.Goals as goal

pub returns : goal.returns
returns c = λ x f.
    let n = cast_unsigned w64 x in
    let none : 0 < 2 ^ 64 = omega arith in
    let small : 2 ^ 64 - 1 - n < 2 ^ 64 = omega arith in
    negated_has c.sum.result x f.fits
    (c.sum.ensures 0 (2 ^ 64 - 1 - n) none small c.exact_bits.ensures (c.flipped.ensures n (unsigned_fits x f.fits) f.bits))
