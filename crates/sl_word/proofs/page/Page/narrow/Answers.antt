use Rattle.std.proofs.Common.{arith}
use Rattle.std.proofs.lemmas.List.{places}
use Rattle.sl_word.proofs.InOnePage.{number_of-part}
use Rattle.sl_word.proofs.page.Page.narrow.Goals as goal

pub returns-clause-value : goal.returns-clause-value
returns-clause-value c =
    number_of-part c.args.endian c.args.self.now.bytes.items c.eight_at.result c.args.place c.args.size.bytes c.from_first.result.bits c.from_first.ensures.value
    (λ i h. grind (arith, places, c.deref.ensures.value, c.eight_at.ensures i, c.requires.narrow))
