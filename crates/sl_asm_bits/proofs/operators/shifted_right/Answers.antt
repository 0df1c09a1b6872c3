use Rattle.std.specs.Int.{cast_unsigned, w64}
use Rattle.sl_asm_bits.proofs.OperatorLemmas.{right_fits}
use Rattle.sl_asm_bits.proofs.operators.shifted_right.Goals as goal

pub returns-in_default : goal.returns-in_default
returns-in_default c = λ x y f g. c.nothing.ensures _ (right_fits x (cast_unsigned w64 y) f.fits)
