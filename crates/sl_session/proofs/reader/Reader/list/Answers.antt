use Rattle.sl_list_instructions.specs.Listing.{image_from}
use Rattle.sl_session.proofs.LineLemmas.{read_written}
use Rattle.sl_session.proofs.reader.Reader.list.Goals as goal

pub returns-clause-writes : goal.returns-clause-writes
returns-clause-writes g c stands =
    read_written c.args.self.now (image_from c.args.image.now c.args.base c.args.start)
    (g.K.Sink.taken c.args.out.now) (g.K.Sink.taken c.list_all.new.out) c.list_all.result stands
    c.list_all.ensures.whole c.list_all.ensures.front
