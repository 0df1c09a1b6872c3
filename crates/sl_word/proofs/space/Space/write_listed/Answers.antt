use Rattle.std.proofs.Common.{◌^◌, arith}
use Rattle.sl_word.specs.Layout.{byte_of}
use Rattle.sl_word.specs.Pages.{byte_in, page_of}
use Rattle.sl_word.proofs.InOnePage.{Puts-in_page}
use Rattle.sl_word.proofs.PageLemmas.{put_among}
use Rattle.sl_word.proofs.space.Space.write_listed.Goals as goal

pub returns-clause-put : goal.returns-clause-put
returns-clause-put c = λ done.
    let lies = c.in-Some.ensures in
    let byte = byte_of c.args.endian c.args.word.size.bytes c.args.word.bits in
    Puts-in_page (256 ^ c.args.self.now.size.bytes) c.args.base c.in-Some.offset c.args.word.size.bytes byte (byte_in c.args.self.now) _ lies.at (omega (arith, lies.room, c.args.word.at_most_8))
    (put_among c.in-Some.offset 0 c.args.word.size.bytes byte (page_of c.args.self.now.pages) (page_of c.put_narrow.new.self) (omega (arith, lies.page, c.args.word.at_most_8))
    (c.put_narrow.ensures.put done))
