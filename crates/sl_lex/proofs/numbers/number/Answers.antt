use Rattle.std.proofs.Common.{arith}
use Rattle.sl_lex.specs.Bytes.{number}
use Rattle.sl_lex.proofs.NumberLemmas.{one_digit_more}
use Rattle.sl_lex.proofs.numbers.number.Goals as goal

pub returns-in_err-checked_mul-clause-wide : goal.returns-in_err-checked_mul-clause-wide
returns-in_err-checked_mul-clause-wide c =
    let more = one_digit_more c.args.base c.loop-digit.value c.loop-digit.digit-index (number c.args.base c.args.digits.now) c.args.digits.now c.requires (omega arith) c.loop-digit.invariant in
    rw c.from_residual.ensures (omega (arith, c.in_err-checked_mul.ensures))

pub returns-in_err-value-clause-wide : goal.returns-in_err-value-clause-wide
returns-in_err-value-clause-wide c =
    let more = one_digit_more c.args.base c.loop-digit.value c.loop-digit.digit-index (number c.args.base c.args.digits.now) c.args.digits.now c.requires (omega arith) c.loop-digit.invariant in
    rw c.from_residual-in_err-value.ensures (omega (arith, c.in_ok-checked_mul.ensures.1, c.in_err-value.ensures))
