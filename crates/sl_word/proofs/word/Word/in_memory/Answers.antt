use Rattle.std.proofs.Common.{◌∙◌, get_or, ap}
use Rattle.std.specs.Int.{bytes_high_first}
use Rattle.sl_word.proofs.InOnePage.{big_bytes, little_bytes, moved_up}
use Rattle.sl_word.proofs.word.Word.in_memory.Goals as goal

pub returns-in-Little : goal.returns-in-Little
returns-in-Little c = λ i h.
    ap (λ l. get_or l i 0) c.to_le_bytes.ensures
    ∙ little_bytes 16 c.args.self.bits c.args.self.size.bytes i h c.args.self.size.at_most_16
    ∙ rw c.in-Little.is

pub returns-in-Big : goal.returns-in-Big
returns-in-Big c = λ i h.
    ap (λ l. get_or l i 0) (c.to_be_bytes.ensures ∙ ap (bytes_high_first 16) (moved_up 16 c.args.self.bits c.args.self.size.bytes c.bit_count.result c.args.self.size.at_most_16 c.args.self.in_range c.bit_count.ensures))
    ∙ big_bytes 16 c.args.self.bits c.args.self.size.bytes i h c.args.self.size.at_most_16
    ∙ rw c.in-Big.is
