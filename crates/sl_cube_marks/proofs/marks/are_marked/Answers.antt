use Rattle.std.proofs.Common.{◌<◌, ◌≤◌, length, arith}
use Rattle.sl_cube_marks.proofs.MarkLemmas.{marked_none, marked_more, marked_all}
use Rattle.sl_cube_marks.proofs.marks.are_marked.Goals as goal

pub loop-rest-init : goal.loop-rest-init
loop-rest-init c = marked_none c.args.left.now c.args.marks.now

pub loop-rest-preserved : goal.loop-rest-preserved
loop-rest-preserved c =
    let below : c.loop-rest.rest-index < length c.args.left.now = omega arith in
    marked_more c.args.left.now c.args.marks.now c.loop-rest.rest-index c.rest-item.result below c.rest-item.is (c.has_mark.ensures c.if-not-has_mark.false)
    c.loop-rest.invariant

pub returns : goal.returns
returns c = λ t.
    let all : length c.args.left.now ≤ c.loop-rest.rest-index = omega arith in
    marked_all c.args.left.now c.args.marks.now c.loop-rest.rest-index all c.loop-rest.invariant
