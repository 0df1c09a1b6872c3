use Rattle.sl_show.proofs.PartLemmas.{part_added}
use Rattle.sl_show.specs.Templates.{made}
use Rattle.sl_show.proofs.templates.Maker.add.Goals as goal

pub returns : goal.returns
returns c t s =
    part_added t s c.close.new.self.parts.items c.push.new.self.items c.args.part c.close.new.self.text.items (made t s c.args.self.now)
    c.in_ok-push.ensures.items c.in_ok-close.ensures.text (c.in_ok-close.ensures.same t s)
