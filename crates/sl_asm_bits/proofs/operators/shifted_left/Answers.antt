use Rattle.std.specs.Int.{cast_unsigned, w64}
use Rattle.sl_asm_bits.proofs.OperatorLemmas.{left_fits, left_has, same_amount}
use Rattle.sl_asm_bits.proofs.operators.shifted_left.Goals as goal

pub returns-in_default : goal.returns-in_default
returns-in_default c = λ x y f g. c.nothing.ensures _ (left_fits x (cast_unsigned w64 y))

pub returns-then-amount-lt64 : goal.returns-then-amount-lt64
returns-then-amount-lt64 c = λ x y f g.
    left_has c.raised.result x c.cast_unsigned-amount.result (cast_unsigned w64 y)
    (same_amount y c.in-Some.amount c.cast_unsigned-amount.result g.fits (c.in-Some.ensures y g) c.cast_unsigned-amount.ensures) c.if-amount-lt64.true
    (c.raised.ensures (cast_unsigned w64 x) f.bits)
