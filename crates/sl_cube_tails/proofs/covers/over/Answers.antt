use Rattle.std.proofs.Common.{◌<◌, ◌≤◌, length, arith}
use Rattle.sl_cube_tails.proofs.CoverLemmas.{kept_none, kept_more, kept_all}
use Rattle.sl_cube_tails.proofs.covers.over.Goals as goal

pub loop-cover-init : goal.loop-cover-init
loop-cover-init c = rw c.new-kept.ensures.items (kept_none c.args.region.now c.args.covers.now)

pub loop-cover-preserved : goal.loop-cover-preserved
loop-cover-preserved c =
    let below : c.loop-cover.cover-index < length c.args.covers.now = omega arith in
    kept_more c.args.region.now c.args.covers.now c.loop-cover.kept.items c.add_over.new.kept.items c.loop-cover.cover-index c.cover-item.result
    below c.cover-item.is c.in_ok-add_over.ensures c.loop-cover.invariant

pub returns : goal.returns
returns c =
    let all : length c.args.covers.now ≤ c.loop-cover.cover-index = omega arith in
    kept_all c.args.region.now c.args.covers.now c.loop-cover.kept.items c.loop-cover.cover-index all c.loop-cover.invariant
