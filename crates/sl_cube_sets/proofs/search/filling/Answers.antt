use Rattle.std.proofs.Common.{◌<◌, length, arith}
use Rattle.sl_cube_sets.proofs.LeftLemmas.{filled_more}
use Rattle.sl_cube_sets.proofs.search.filling.Goals as goal

pub loop-candidate-preserved : goal.loop-candidate-preserved
loop-candidate-preserved c =
    let below : c.loop-candidate.candidate-index < length c.args.left.now = omega arith in
    record {
      filled = filled_more c.args.region.now c.args.left.now c.loop-candidate.candidate-index c.candidate-item.result c.in_ok-lower.lower c.loop-candidate.found c.chosen-found.result
          below c.candidate-item.is c.in_ok-lower.ensures.fills c.chosen-found.ensures c.loop-candidate.invariant.filled;
      right = c.in_ok-lower.ensures.right;
    }
