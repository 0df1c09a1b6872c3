use Rattle.std.proofs.Common.{arith}
use Rattle.sl_word.proofs.Powers.{greatest-shift}
use Rattle.sl_word.proofs.word.Size.greatest.Goals as goal

pub returns : goal.returns
returns c =
    greatest-shift 128 c.args.self.bytes c.bit_count.result c.bit_count.ensures (omega (arith, c.args.self.at_most_16))
