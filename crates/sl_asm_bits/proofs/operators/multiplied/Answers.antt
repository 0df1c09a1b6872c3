use Rattle.std.specs.Int.{cast_unsigned, w64}
use Rattle.sl_asm_bits.proofs.NumberLemmas.{unsigned_fits}
use Rattle.sl_asm_bits.proofs.OperatorLemmas.{multiplied_has}
use Rattle.sl_asm_bits.proofs.operators.multiplied.Goals as goal

pub returns : goal.returns
returns c = λ x y f g. multiplied_has c.product.result x y f.fits g.fits
    (c.product.ensures (cast_unsigned w64 x) (cast_unsigned w64 y) (unsigned_fits x f.fits) (unsigned_fits y g.fits) f.bits g.bits)
