use Rattle.std.proofs.Common.{sym, arith}
use Rattle.sl_word.proofs.Powers.{shr-past}
use Rattle.sl_word.proofs.arithmetic.shifted_right.Goals as goal

pub returns-else-amount-lt128 : goal.returns-else-amount-lt128
returns-else-amount-lt128 c = sym (shr-past c.args.bits 128 c.args.amount (omega arith) (omega arith))
