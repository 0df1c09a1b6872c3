use Rattle.sl_show.proofs.PartLemmas.{none_made}
use Rattle.sl_show.proofs.templates.Maker.new.Goals as goal

pub returns : goal.returns
returns c t s = none_made t s c.new.result.items c.new-2.result.items c.new.ensures.items c.new-2.ensures.items
