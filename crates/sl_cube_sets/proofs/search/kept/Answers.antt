use Rattle.std.proofs.Common.{◌<◌, ◌≤◌, length, arith}
use Rattle.sl_cube_sets.proofs.LeftLemmas.{kept_none, kept_more, kept_all}
use Rattle.sl_cube_sets.proofs.search.kept.Goals as goal

pub loop-candidate-init : goal.loop-candidate-init
loop-candidate-init c = rw c.new-kept.ensures.items (kept_none c.args.region.now c.args.left.now)

pub loop-candidate-preserved : goal.loop-candidate-preserved
loop-candidate-preserved c =
    let left = c.args.left.now in
    let below : c.loop-candidate.candidate-index < length c.args.left.now = omega arith in
    kept_more c.args.region.now left c.loop-candidate.kept.items c.put_meeting.new.kept.items c.loop-candidate.candidate-index c.candidate-item.result
    below c.candidate-item.is c.in_ok-put_meeting.ensures c.loop-candidate.invariant

pub returns : goal.returns
returns c =
    let all : length c.args.left.now ≤ c.loop-candidate.candidate-index = omega arith in
    kept_all c.args.region.now c.args.left.now c.loop-candidate.kept.items c.loop-candidate.candidate-index all c.loop-candidate.invariant
