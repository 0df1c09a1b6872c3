use Rattle.std.proofs.Common.{◌<◌, ◌≤◌, length, arith}
use Rattle.sl_cube_tails.proofs.CoverLemmas.{tallied_begun, tallied_open, tallied_more, tallied_halves}
use Rattle.sl_cube_tails.proofs.covers.halved.Goals as goal

pub loop-cover-init : goal.loop-cover-init
loop-cover-init c = rw c.new-tally.ensures (tallied_begun c.args.region.now c.args.covers.now)

pub loop-cover-preserved : goal.loop-cover-preserved
loop-cover-preserved c =
    let below : c.loop-cover.cover-index < length c.args.covers.now = omega arith in
    tallied_more c.args.region.now c.args.covers.now c.loop-cover.cover-index c.cover-item.result c.loop-cover.tally.shortest c.weigh_all.new.self.shortest
    below c.cover-item.is c.weigh_all.ensures c.loop-cover.invariant

pub halves-requires : goal.halves-requires
halves-requires c = tallied_open c.args.region.now c.args.covers.now c.loop-cover.cover-index c.loop-cover.tally.shortest c.loop-cover.invariant

pub returns : goal.returns
returns c =
    let all : length c.args.covers.now ≤ c.loop-cover.cover-index = omega arith in
    tallied_halves c.args.region.now c.args.covers.now c.loop-cover.cover-index c.loop-cover.tally.shortest c.halves.result all c.loop-cover.invariant c.halves.ensures
