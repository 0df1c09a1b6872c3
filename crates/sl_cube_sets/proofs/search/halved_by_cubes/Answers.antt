use Rattle.std.proofs.Common.{◌<◌, ◌≤◌, length, arith}
use Rattle.sl_cube_sets.proofs.LeftLemmas.{tallied_begun, tallied_open, tallied_more, tallied_halves}
use Rattle.sl_cube_sets.proofs.search.halved_by_cubes.Goals as goal

pub loop-candidate-init : goal.loop-candidate-init
loop-candidate-init c = rw c.new-tally.ensures (tallied_begun c.args.region.now c.args.left.now)

pub loop-candidate-preserved : goal.loop-candidate-preserved
loop-candidate-preserved c =
    let below : c.loop-candidate.candidate-index < length c.args.left.now = omega arith in
    tallied_more c.args.region.now c.args.left.now c.loop-candidate.candidate-index c.candidate-item.result c.loop-candidate.tally.shortest c.weigh_all.new.self.shortest
    below c.candidate-item.is (rw c.as_slice.ensures.value at c.weigh_all.ensures) c.loop-candidate.invariant

pub halves-requires : goal.halves-requires
halves-requires c = tallied_open c.args.region.now c.args.left.now c.loop-candidate.candidate-index c.loop-candidate.tally.shortest c.loop-candidate.invariant

pub returns : goal.returns
returns c =
    let all : length c.args.left.now ≤ c.loop-candidate.candidate-index = omega arith in
    tallied_halves c.args.region.now c.args.left.now c.loop-candidate.candidate-index c.loop-candidate.tally.shortest c.halves.result all c.loop-candidate.invariant c.halves.ensures
