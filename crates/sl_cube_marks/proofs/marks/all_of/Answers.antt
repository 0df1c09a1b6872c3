use Rattle.std.proofs.Common.{◌<◌, ◌≤◌, length, arith}
use Rattle.sl_cube_marks.proofs.RestLemmas.{all_none, all_more, all_all}
use Rattle.sl_cube_marks.proofs.marks.all_of.Goals as goal

pub loop-index-init : goal.loop-index-init
loop-index-init c = rw c.new-left.ensures.items (all_none c.args.sets.now c.args.region.now)

pub loop-index-preserved : goal.loop-index-preserved
loop-index-preserved c =
    let below : c.loop-index.index < length c.args.sets.now = omega arith in
    let adds = rw c.deref.ensures.value at c.in_ok-put.ensures in
    all_more c.args.sets.now c.args.region.now c.loop-index.left.items c.put.new.kept.items c.loop-index.index c.index-sets-index.result below c.index-sets-index.is adds
    c.loop-index.invariant

pub returns : goal.returns
returns c =
    let all : length c.args.sets.now ≤ c.loop-index.index = omega arith in
    all_all c.args.sets.now c.args.region.now c.loop-index.left.items c.loop-index.index all c.loop-index.invariant
