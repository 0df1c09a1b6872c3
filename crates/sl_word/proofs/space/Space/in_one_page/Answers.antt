use Rattle.sl_word.proofs.InOnePage.{lies_in_one_page}
use Rattle.sl_word.proofs.Powers.{low-mask}
use Rattle.sl_word.proofs.space.Space.in_one_page.Goals as goal

pub returns : goal.returns
returns c =
    let at = low-mask c.args.base c.last-last.result c.args.self.now.size.bytes c.last-last.ensures in
    let lies = lies_in_one_page c.args.base c.args.self.now.size.bytes c.last-last.result _ c.args.count c.args.self.now.size.some c.last-last.ensures at c.if-offset-count.false in
    record { at = at; page = lies.0; room = lies.1 }
