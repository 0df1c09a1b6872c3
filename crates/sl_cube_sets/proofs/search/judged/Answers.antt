use Rattle.std.proofs.Common.{arith}
use Rattle.sl_cube.specs.Points.{InRange}
use Rattle.sl_cube_sets.proofs.LeftLemmas.{is_none_there, not_none, answer_settled, settled_by_none, settled_by_best, answer_unsettled}
use Rattle.sl_cube_sets.proofs.search.judged.Goals as goal

pub returns-then-is_none : goal.returns-then-is_none
returns-then-is_none c =
    let none = is_none_there c.args.left.now c.least-least.result c.first_there-one.result c.if-is_none.ensures c.first_there-one.ensures in
    answer_settled c.args.sets.now c.args.region.now c.args.left.now c.least-least.result c.requires c.least-least.ensures.0
    (settled_by_none c.args.sets.now c.args.left.now c.least-least.result none)

pub returns-then-best : goal.returns-then-best
returns-then-best c =
    let best = rw c.if-best.true at c.in_ok-best.ensures in
    answer_settled c.args.sets.now c.args.region.now c.args.left.now c.least-least.result c.requires c.least-least.ensures.0
    (settled_by_best c.args.sets.now c.args.left.now c.least-least.result best)

pub returns : goal.returns
returns c =
    let range : InRange c.least-least.result = (omega arith, omega arith) in
    let none = rw c.if-best.false at c.in_ok-best.ensures in
    answer_unsettled c.args.sets.now c.args.region.now c.args.left.now c.least-least.result c.first_there-one.result range c.least-least.ensures.0
    (not_none c.first_there-one.result c.if-is_none.ensures) c.first_there-one.ensures none
