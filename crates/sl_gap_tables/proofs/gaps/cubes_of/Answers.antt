use Rattle.std.proofs.Common.{◌<◌, ◌≤◌, length, arith}
use Rattle.sl_gap_tables.proofs.GapLemmas.{cubes_more, cubes_all}
use Rattle.sl_gap_tables.proofs.gaps.cubes_of.Goals as goal

pub loop-set-preserved : goal.loop-set-preserved
loop-set-preserved c =
    let below : c.loop-set.set-index < length c.args.kept.now.sets.items = omega arith in
    cubes_more c.args.kept.now.sets.items c.loop-set.cubes.items c.extend_from_slice.new.self.items c.loop-set.set-index c.set-item.result below (rw c.deref-set-items.ensures.value at c.set-item.is)
    (rw c.deref.ensures.value at c.in_ok-extend_from_slice.ensures.items) c.loop-set.invariant

pub returns : goal.returns
returns c =
    let all : length c.args.kept.now.sets.items ≤ c.loop-set.set-index = omega arith in
    cubes_all c.args.kept.now c.loop-set.cubes.items c.loop-set.set-index all c.loop-set.invariant
