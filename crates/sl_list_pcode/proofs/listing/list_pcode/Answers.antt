use Rattle.sl_list_pcode.proofs.ReadyLemmas.{ready, written}
use Rattle.sl_list_pcode.proofs.listing.list_pcode.Goals as goal

pub list_all-requires : goal.list_all-requires
list_all-requires g c = ready _ c.args.compiled.now c.in-Ok.ensures c.requires.short c.requires.compiled

pub returns-clause-writes : goal.returns-clause-writes
returns-clause-writes g c =
    written c.in-Ok.translator c.args.compiled.now c.in-Ok.ensures
    c.args.image.now (g.K.Sink.taken c.args.out.now)
    (g.K.Sink.taken c.list_all.new.out) c.list_all.result c.list_all.ensures.whole c.list_all.ensures.front
