use Rattle.std.proofs.Common.{◌<◌, ◌≤◌, length, arith}
use Rattle.sl_cube_tails.proofs.CoverLemmas.{tails_none, tails_more, tails_all}
use Rattle.sl_cube_tails.proofs.covers.tails_at.Goals as goal

pub loop-cover-init : goal.loop-cover-init
loop-cover-init c = rw c.new-tails.ensures.items (tails_none c.args.point.now c.args.covers.now)

pub loop-cover-preserved : goal.loop-cover-preserved
loop-cover-preserved c =
    let below : c.loop-cover.cover-index < length c.args.covers.now = omega arith in
    tails_more c.args.point.now c.args.covers.now c.loop-cover.tails.items c.add_tail.new.tails.items c.loop-cover.cover-index c.cover-item.result
    below c.cover-item.is c.in_ok-add_tail.ensures c.loop-cover.invariant

pub returns : goal.returns
returns c =
    let all : length c.args.covers.now ≤ c.loop-cover.cover-index = omega arith in
    tails_all c.args.point.now c.args.covers.now c.loop-cover.tails.items c.loop-cover.cover-index all c.loop-cover.invariant
