use Rattle.std.proofs.Common.{arith}
use Rattle.std.proofs.lemmas.Nat.{leading_le}
use Rattle.sl_word.proofs.Powers.{byte_below, leading-wider}
use Rattle.sl_word.proofs.arithmetic.leading_zero_bits.Goals as goal

pub overflow_sub-a : goal.overflow_sub-a
overflow_sub-a c =
    omega (arith, leading-wider c.args.a.bits c.args.a.size.bytes c.args.a.size.at_most_16 c.args.a.in_range)

pub returns-clause-value : goal.returns-clause-value
returns-clause-value c =
    omega (arith, leading-wider c.args.a.bits c.args.a.size.bytes c.args.a.size.at_most_16 c.args.a.in_range)

pub returns-clause-below : goal.returns-clause-below
returns-clause-below c =
    byte_below c.from.result c.args.out.bytes (omega (arith, leading_le 128 c.args.a.bits)) c.args.out.some
