use Rattle.std.proofs.Common.{get_or}
use Rattle.sl_word.proofs.PageLemmas.{put_slot}
use Rattle.sl_word.proofs.pages.put_listed.Goals as goal

pub returns-clause-put : goal.returns-clause-put
returns-clause-put c = λ done.
    put_slot c.args.pages.now c.args.number c.args.place c.args.from c.args.count (λ k. get_or c.args.bytes.now k 0) _ c.put_in.new.page c.if-pages-number.false
    (c.put_in.ensures.stays (c.put_in.ensures.found.0 done)) (λ k. c.put_in.ensures.put k done)
