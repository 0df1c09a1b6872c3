use Rattle.std.proofs.Common.{sym, ◌∙◌}
use Rattle.std.proofs.lemmas.Bool.{false≢true}
use Rattle.sl_cube_tails.proofs.CoverLemmas.{adds_over, adds_apart}
use Rattle.sl_cube_tails.proofs.covers.add_over.Goals as goal

pub returns-in_ok-push : goal.returns-in_ok-push
returns-in_ok-push c = adds_over c.args.region.now c.args.cover.now c.args.kept.now.items c.push.new.self.items c.in_ok-push.ensures.items

pub returns-else-meets : goal.returns-else-meets
returns-else-meets c = adds_apart c.args.region.now c.args.cover.now c.args.kept.now.items
    (λ meet. false≢true (sym c.if-meets.false ∙ c.meets.ensures.1 meet))
