use Rattle.std.proofs.Common.{◌^◌, get_or}
use Rattle.std.proofs.lemmas.Result.{on_ok_weaker}
use Rattle.sl_word.specs.Pages.{byte_in}
use Rattle.sl_word.proofs.InOnePage.{Puts-in_page}
use Rattle.sl_word.proofs.space.Space.put.Goals as goal

pub returns-in-Some-clause-put : goal.returns-in-Some-clause-put
returns-in-Some-clause-put c =
    let lies = c.in-Some.ensures in
    on_ok_weaker c.put_in_page.result
    (λ run. Puts-in_page (256 ^ c.args.self.now.size.bytes) c.args.base c.in-Some.offset c.args.count (λ k. get_or c.args.bytes.now k 0)
    (byte_in c.args.self.now) (byte_in c.put_in_page.new.self) lies.at lies.room run)
    c.put_in_page.ensures.bytes
