use Rattle.std.proofs.Common.{◌∙◌, get_or, ap}
use Rattle.std.specs.Int.{bytes_high_first}
use Rattle.sl_word.proofs.InOnePage.{big_bytes, moved_up}
use Rattle.sl_word.proofs.narrow.Narrow.most_first.Goals as goal

pub returns : goal.returns
returns c = λ i h.
    ap (λ l. get_or l i 0) (c.to_be_bytes.ensures ∙ ap (bytes_high_first 8) (moved_up 8 c.args.self.bits c.args.self.size.bytes c.bit_count.result c.args.self.at_most_8 c.args.self.in_range c.bit_count.ensures))
    ∙ big_bytes 8 c.args.self.bits c.args.self.size.bytes i h c.args.self.at_most_8
