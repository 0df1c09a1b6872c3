use Rattle.std.specs.Int.{cast_unsigned, w64}
use Rattle.sl_asm_bits.proofs.NumberLemmas.{unsigned_fits}
use Rattle.sl_asm_bits.proofs.OperatorLemmas.{complement_has}
use Rattle.sl_asm_bits.proofs.operators.complement.Goals as goal

pub returns : goal.returns
returns c = λ x f. complement_has c.flipped.result x f.fits (c.flipped.ensures (cast_unsigned w64 x) (unsigned_fits x f.fits) f.bits)
