use Rattle.std.proofs.Common.{◌^◌, ◌∙◌, arith}
use Rattle.sl_word.specs.Pages.{byte_in}
use Rattle.sl_word.proofs.InOnePage.{number_in_page}
use Rattle.sl_word.proofs.space.Space.number.Goals as goal

pub returns-in-Some-clause-value : goal.returns-in-Some-clause-value
returns-in-Some-clause-value c =
    let lies = c.in-Some.ensures in
    c.number_in_page.ensures.value
    ∙ number_in_page c.args.endian (byte_in c.args.self.now) (256 ^ c.args.self.now.size.bytes) c.args.base c.in-Some.offset c.args.size.bytes lies.at (omega (arith, lies.room, c.from.ensures))
