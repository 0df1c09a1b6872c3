use Rattle.std.proofs.Common.{◌<◌, ◌≤◌, length, arith}
use Rattle.sl_cube_marks.proofs.RestLemmas.{tallied_begun, tallied_open, tallied_more, tallied_halves}
use Rattle.sl_cube_marks.proofs.narrowing.halved.Goals as goal

pub loop-rest-init : goal.loop-rest-init
loop-rest-init c = rw c.new-tally.ensures (tallied_begun c.args.region.now c.args.left.now)

pub loop-rest-preserved : goal.loop-rest-preserved
loop-rest-preserved c =
    let below : c.loop-rest.rest-index < length c.args.left.now = omega arith in
    tallied_more c.args.region.now c.args.left.now c.loop-rest.rest-index c.rest-item.result c.loop-rest.tally.shortest c.weigh_all.new.self.shortest
    below c.rest-item.is (rw c.deref.ensures.value at c.weigh_all.ensures) c.loop-rest.invariant

pub halves-requires : goal.halves-requires
halves-requires c = tallied_open c.args.region.now c.args.left.now c.loop-rest.rest-index c.loop-rest.tally.shortest c.loop-rest.invariant

pub returns : goal.returns
returns c =
    let all : length c.args.left.now ≤ c.loop-rest.rest-index = omega arith in
    tallied_halves c.args.region.now c.args.left.now c.loop-rest.rest-index c.loop-rest.tally.shortest c.halves.result all c.loop-rest.invariant c.halves.ensures
