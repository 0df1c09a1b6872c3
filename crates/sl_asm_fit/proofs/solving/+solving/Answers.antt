use Rattle.std.proofs.Common.{◌<◌, ◌≤◌, length, arith}
use Rattle.sl_asm_fit.proofs.SolveLemmas.{all_dead, answer_dead, answer_found, dead_more}
use Rattle.sl_asm_fit.proofs.solving.+solving.Goals as goal

pub found-returns-then-is_some : goal.found-returns-then-is_some
found-returns-then-is_some t c =
    let first = c.in-Some.first.now in
    let below : c.loop-cube.cube-index < length first.cubes.items = omega arith in
    answer_found (λ v. v.items) c.in_ok-answer.answer c.args.region.now c.args.context first c.in-Some.rest.now c.args.demands.now c.loop-cube.cube-index c.cube-item.result
    c.in-Some.ensures.cases.0 below (rw c.deref-cube-items.ensures.value at c.cube-item.is) c.if-is_some.ensures c.in_ok-answer.ensures

pub found-loop-cube-preserved : goal.found-loop-cube-preserved
found-loop-cube-preserved t c =
    let first = c.in-Some.first.now in
    let below : c.loop-cube.cube-index < length first.cubes.items = omega arith in
    dead_more c.args.region.now c.args.context first.at c.in-Some.rest.now first.cubes.items c.loop-cube.cube-index c.cube-item.result below
    (rw c.deref-cube-items.ensures.value at c.cube-item.is)
    (answer_dead (λ v. v.items) c.in_ok-answer.answer c.args.region.now c.args.context first.at c.cube-item.result c.in-Some.rest.now c.if-is_some.ensures c.in_ok-answer.ensures)
    c.loop-cube.invariant

pub found-returns : goal.found-returns
found-returns t c =
    let first = c.in-Some.first.now in
    let all : length first.cubes.items ≤ c.loop-cube.cube-index = omega arith in
    all_dead c.args.region.now c.args.context first c.in-Some.rest.now c.args.demands.now c.loop-cube.cube-index c.in-Some.ensures.cases.0 all c.loop-cube.invariant
