use Rattle.std.proofs.Common.{◌<◌, length, arith}
use Rattle.sl_cube_marks.proofs.RestLemmas.{filled_more}
use Rattle.sl_cube_marks.proofs.narrowing.filler.Goals as goal

pub loop-rest-preserved : goal.loop-rest-preserved
loop-rest-preserved c =
    let below : c.loop-rest.rest-index < length c.args.left.now = omega arith in
    filled_more c.args.region.now c.args.left.now c.loop-rest.rest-index c.rest-item.result c.loop-rest.found c.in_ok-found.found
    below c.rest-item.is c.in_ok-found.ensures c.loop-rest.invariant
