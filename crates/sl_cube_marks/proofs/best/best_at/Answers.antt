use Rattle.std.proofs.Common.{◌<◌, ◌≤◌, length, arith}
use Rattle.sl_cube_marks.proofs.BestLemmas.{best_none, best_more, best_all}
use Rattle.sl_cube_marks.proofs.best.best_at.Goals as goal

pub loop-rest-init : goal.loop-rest-init
loop-rest-init c = best_none c.args.sets.now c.args.left.now c.args.point.now

pub loop-rest-preserved : goal.loop-rest-preserved
loop-rest-preserved c =
    let below : c.loop-rest.rest-index < length c.args.left.now = omega arith in
    best_more c.args.sets.now c.args.left.now c.args.point.now c.loop-rest.found c.in_ok-found.found c.loop-rest.rest-index c.rest-item.result
    below c.rest-item.is c.in_ok-found.ensures c.loop-rest.invariant

pub returns : goal.returns
returns c =
    let all : length c.args.left.now ≤ c.loop-rest.rest-index = omega arith in
    best_all c.args.sets.now c.args.left.now c.args.point.now c.loop-rest.found c.loop-rest.rest-index all c.loop-rest.invariant
