use Rattle.std.proofs.Common.{◌*◌, ◌^◌, ◌∙◌, sym, arith}
use Rattle.sl_word.proofs.Powers.{low-wrap, shl-past}
use Rattle.sl_emu.proofs.narrow.shifted_left.Goals as goal

pub returns-then-amount-lt64-clause-value : goal.returns-then-amount-lt64-clause-value
returns-then-amount-lt64-clause-value c =
    c.low.ensures.value ∙ low-wrap (c.args.a.bits * 2 ^ c.args.amount) 64 c.args.a.size.bytes (omega (arith, c.args.a.at_most_8))

pub returns-else-amount-lt64-clause-value : goal.returns-else-amount-lt64-clause-value
returns-else-amount-lt64-clause-value c =
    sym (shl-past c.args.a.bits c.args.a.size.bytes c.args.amount (omega (arith, c.args.a.at_most_8)))
