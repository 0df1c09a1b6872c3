use Rattle.std.proofs.Common.{◌*◌, ◌∙◌, arith}
use Rattle.sl_word.proofs.Powers.{low-wrap}
use Rattle.sl_emu.proofs.narrow.product.Goals as goal

pub returns-clause-value : goal.returns-clause-value
returns-clause-value c =
    c.low.ensures.value ∙ low-wrap (c.args.a.bits * c.args.b.bits) 64 c.args.a.size.bytes (omega (arith, c.args.a.at_most_8))
