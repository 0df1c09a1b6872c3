use Rattle.std.proofs.Common.{sym, arith}
use Rattle.sl_word.proofs.Powers.{shr-past}
use Rattle.sl_emu.proofs.narrow.shifted_right.Goals as goal

pub returns-else-amount-lt64 : goal.returns-else-amount-lt64
returns-else-amount-lt64 c = sym (shr-past c.args.bits 64 c.args.amount (omega arith) (omega arith))
