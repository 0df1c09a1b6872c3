use Rattle.sl_word.specs.Layout.{byte_of}
use Rattle.sl_word.proofs.PageLemmas.{put_slot}
use Rattle.sl_word.proofs.pages.put_narrow_listed.Goals as goal

pub returns-clause-put : goal.returns-clause-put
returns-clause-put c = λ done.
    put_slot c.args.pages.now c.args.number c.args.place 0 c.args.word.size.bytes (byte_of c.args.endian c.args.word.size.bytes c.args.word.bits) _ c.put_narrow_in.new.page c.if-pages-number.false
    (c.put_narrow_in.ensures.stays (c.put_narrow_in.ensures.found.0 done)) (λ k. c.put_narrow_in.ensures.put k done)
