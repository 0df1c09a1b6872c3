use Rattle.std.proofs.Common.{◌≤◌, length, arith}
use Rattle.sl_cube_sets.proofs.PairLemmas.{pairs_more, pairs_all}
use Rattle.sl_cube_sets.proofs.pair.first_pair.Goals as goal

pub loop-first-preserved : goal.loop-first-preserved
loop-first-preserved c = pairs_more c.args.sets.now c.args.point.now c.loop-first.first c.loop-first.invariant (rw c.in_default.is at c.in_ok-beside.ensures)

pub returns : goal.returns
returns c =
    let all : length c.args.sets.now ≤ c.loop-first.first = omega arith in
    pairs_all c.args.sets.now c.args.point.now c.loop-first.first all c.loop-first.invariant
