use Rattle.std.proofs.Common.{◌<◌, ◌≤◌, length, arith}
use Rattle.sl_cube_marks.proofs.RestLemmas.{kept_none, kept_more, kept_all}
use Rattle.sl_cube_marks.proofs.narrowing.kept.Goals as goal

pub loop-rest-init : goal.loop-rest-init
loop-rest-init c = rw c.new-kept.ensures.items (kept_none c.args.sets.now c.args.region.now c.args.filled c.args.left.now)

pub loop-rest-preserved : goal.loop-rest-preserved
loop-rest-preserved c =
    let below : c.loop-rest.rest-index < length c.args.left.now = omega arith in
    kept_more c.args.sets.now c.args.region.now c.args.filled c.args.left.now c.loop-rest.kept.items c.put_unless_above.new.kept.items c.loop-rest.rest-index
    c.rest-item.result below c.rest-item.is c.in_ok-put_unless_above.ensures c.loop-rest.invariant

pub returns : goal.returns
returns c =
    let all : length c.args.left.now ≤ c.loop-rest.rest-index = omega arith in
    kept_all c.args.sets.now c.args.region.now c.args.filled c.args.left.now c.loop-rest.kept.items c.loop-rest.rest-index all c.loop-rest.invariant
