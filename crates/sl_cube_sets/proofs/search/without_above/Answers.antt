use Rattle.std.proofs.Common.{◌<◌, ◌≤◌, length, arith}
use Rattle.sl_cube_sets.proofs.LeftLemmas.{without_none, without_more, without_all}
use Rattle.sl_cube_sets.proofs.search.without_above.Goals as goal

pub loop-candidate-init : goal.loop-candidate-init
loop-candidate-init c = record { thin = rw c.new-thin.ensures.items (without_none c.args.sets.now c.args.filled c.args.left.now); right = c.requires }

pub loop-candidate-preserved : goal.loop-candidate-preserved
loop-candidate-preserved c =
    let below : c.loop-candidate.candidate-index < length c.args.left.now = omega arith in
    record {
      thin = without_more c.args.sets.now c.args.filled c.args.left.now c.loop-candidate.thin.items c.put_unless_above.new.thin.items c.loop-candidate.candidate-index c.candidate-item.result
          below c.candidate-item.is c.in_ok-put_unless_above.ensures.adds c.loop-candidate.invariant.thin;
      right = c.in_ok-put_unless_above.ensures.right;
    }

pub returns : goal.returns
returns c =
    let all : length c.args.left.now ≤ c.loop-candidate.candidate-index = omega arith in
    record {
      thin = without_all c.args.sets.now c.args.filled c.args.left.now c.loop-candidate.thin.items c.loop-candidate.candidate-index all c.loop-candidate.invariant.thin;
      right = c.loop-candidate.invariant.right;
    }
