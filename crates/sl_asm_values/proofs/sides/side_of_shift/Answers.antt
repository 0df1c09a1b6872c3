use Rattle.std.proofs.Common.{◌<◌, ◌^◌, arith}
use Rattle.std.specs.Int.{cast_unsigned, w64}
use Rattle.sl_asm_bits.proofs.OperatorLemmas.{same_amount}
use Rattle.sl_asm_values.proofs.SideLemmas.{shift_has}
use Rattle.sl_asm_values.proofs.sides.side_of_shift.Goals as goal

pub returns-then-count-lt64 : goal.returns-then-count-lt64
returns-then-count-lt64 c = λ x y fits has f.
    let wanted = c.args.wanted.now in
    let small : wanted.mask < 2 ^ 64 = omega arith in
    shift_has wanted c.under.result x c.cast_unsigned-count.result (cast_unsigned w64 y) fits
    (same_amount y c.in-Some.number c.cast_unsigned-count.result has.fits (c.in-Some.ensures y has) c.cast_unsigned-count.ensures) c.if-count-lt64.true
    small (c.under.ensures (cast_unsigned w64 x)).0 f
