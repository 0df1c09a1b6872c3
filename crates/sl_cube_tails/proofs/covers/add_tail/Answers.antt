use Rattle.sl_cube_tails.proofs.CoverLemmas.{adds_tail}
use Rattle.sl_cube_tails.proofs.covers.add_tail.Goals as goal

pub returns-in_ok-push : goal.returns-in_ok-push
returns-in_ok-push c = adds_tail c.args.point.now c.args.cover.now c.args.tails.now.items c.push.new.self.items (c.has.ensures.0 c.if-has.true) c.in_ok-push.ensures.items
