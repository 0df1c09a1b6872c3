use Rattle.std.proofs.Common.{arith}
use Rattle.std.proofs.lemmas.List.{places}
use Rattle.sl_word.proofs.InOnePage.{number_of-part}
use Rattle.sl_word.proofs.page.Page.number.Goals as goal

pub returns-clause-value : goal.returns-clause-value
returns-clause-value c =
    number_of-part c.args.endian c.args.self.now.bytes.items _ c.args.place c.args.size.bytes c.from_bytes.result.bits c.from_bytes.ensures.value
    (λ i h. grind (arith, places, c.deref.ensures.value, c.requires))
