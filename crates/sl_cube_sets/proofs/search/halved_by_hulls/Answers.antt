use Rattle.std.proofs.Common.{[], ◌∷◌}
use Rattle.sl_cube_sets.proofs.LeftLemmas.{open_more, halves_some}
use Rattle.sl_cube_sets.proofs.search.halved_by_hulls.Goals as goal

pub loop-candidate-init : goal.loop-candidate-init
loop-candidate-init c = rw c.new-tally.ensures tt

pub loop-candidate-preserved : goal.loop-candidate-preserved
loop-candidate-preserved c =
    open_more c.args.region.now (c.candidate-item.result.hull ∷ []) c.loop-candidate.tally.shortest c.weigh_all.new.self.shortest c.weigh_all.ensures c.loop-candidate.invariant

pub returns : goal.returns
returns c = halves_some c.args.region.now c.loop-candidate.tally.shortest c.halves.result c.halves.ensures
