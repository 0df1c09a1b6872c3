use Rattle.std.proofs.Common.{◌+◌, ◌<◌, ◌^◌, ◌∙◌, arith}
use Rattle.sl_word.proofs.Powers.{low-wrap}
use Rattle.sl_word.proofs.TwosComplement.{sum-cut}
use Rattle.sl_word.proofs.arithmetic.sum.Goals as goal

pub returns-clause-value : goal.returns-clause-value
returns-clause-value c =
    c.low.ensures.value ∙ low-wrap (c.args.a.bits + c.args.b.bits) 128 c.args.a.size.bytes (omega (arith, c.args.a.size.at_most_16))

pub returns-clause-wraps : goal.returns-clause-wraps
returns-clause-wraps c =
    let below : c.args.b.bits < 256 ^ c.args.a.size.bytes = rw (← c.requires) c.args.b.in_range in
    rw (returns-clause-value c) (sum-cut c.args.a.bits c.args.b.bits (256 ^ c.args.a.size.bytes) c.args.a.in_range below)
