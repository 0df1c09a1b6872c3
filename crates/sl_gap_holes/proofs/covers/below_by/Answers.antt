use Rattle.std.proofs.Common.{◌≤◌, length, arith}
use Rattle.sl_gap_holes.proofs.CoverLemmas.{below_all, below_next, below_none}
use Rattle.sl_gap_holes.proofs.covers.below_by.Goals as goal

pub sets-init : goal.sets-init
sets-init c = rw c.new-covers.ensures.items (below_none c.args.sets.now c.args.set)

pub sets-preserved : goal.sets-preserved
sets-preserved c = below_next c.args.sets.now c.args.set c.sets.covers.items c.put_below.new.covers.items c.sets.other c.in_ok-put_below.ensures c.sets.invariant

pub returns : goal.returns
returns c =
    let all : length c.args.sets.now ≤ c.sets.other = omega arith in
    below_all c.args.sets.now c.args.set c.sets.covers.items c.sets.other all c.sets.invariant
