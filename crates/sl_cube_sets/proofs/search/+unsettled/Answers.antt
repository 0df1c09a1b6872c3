use Rattle.std.proofs.Common.{◌≤◌, length, None, sym, subst, arith}
use Rattle.sl_cube_sets.specs.Left.{IsAnswer}
use Rattle.sl_cube_sets.proofs.LeftLemmas.{answer_one, answer_nested, answer_carried, answer_high, answer_found, not_none, is_none_found}
use Rattle.sl_cube_sets.proofs.search.+unsettled.Goals as goal

pub returns-then-len-le1-clause-answer : goal.returns-then-len-le1-clause-answer
returns-then-len-le1-clause-answer t c =
    let one : length c.in_ok-thin.thin.items ≤ 1 = omega arith in
    answer_carried c.args.sets.now c.args.region.now c.args.left.now c.in_ok-thin.thin.items c.in_ok-thin.ensures.thin None
    (answer_one c.args.sets.now c.args.region.now c.in_ok-thin.thin.items one)

pub returns-then-nested-clause-answer : goal.returns-then-nested-clause-answer
returns-then-nested-clause-answer t c =
    let nested = rw c.deref.ensures.value at c.in_ok-nested.ensures.nested in
    answer_carried c.args.sets.now c.args.region.now c.args.left.now c.in_ok-thin.thin.items c.in_ok-thin.ensures.thin None
    (answer_nested c.args.sets.now c.args.region.now c.in_ok-thin.thin.items (nested c.if-nested.true))

pub judged-requires : goal.judged-requires
judged-requires t c = rw c.deref-in_default.ensures.value (rw c.deref-2.ensures.value at c.in_default.ensures)

pub returns-in_default-clause-answer : goal.returns-in_default-clause-answer
returns-in_default-clause-answer t c =
    answer_carried c.args.sets.now c.args.region.now c.args.left.now c.in_ok-thin.thin.items c.in_ok-thin.ensures.thin c.in_ok-answer.answer
    (rw c.deref-in_default.ensures.value at c.in_ok-answer.ensures)

pub returns-then-is_some-clause-answer : goal.returns-then-is_some-clause-answer
returns-then-is_some-clause-answer t c =
    let sets = c.args.sets.now in
    let region = c.args.region.now in
    let thin = c.in_ok-thin.thin.items in
    let keeps = rw c.deref-3.ensures.value at c.in_ok-in_low.ensures in
    let answer = rw c.deref-4.ensures.value at c.in_ok-found.ensures.answer in
    answer_carried sets region c.args.left.now thin c.in_ok-thin.ensures.thin c.in_ok-found.found
    (answer_found sets region thin c.in-Some.low c.in-Some.high c.in_ok-in_low.in_low.items c.in_ok-found.found c.in-Some.ensures keeps answer
    (not_none c.in_ok-found.found (sym c.if-is_some.ensures)))

pub returns-clause-answer : goal.returns-clause-answer
returns-clause-answer t c =
    let sets = c.args.sets.now in
    let region = c.args.region.now in
    let thin = c.in_ok-thin.thin.items in
    let keeps = rw c.deref-3.ensures.value at c.in_ok-in_low.ensures in
    let keeps_high = rw c.deref-5.ensures.value at c.in_ok-in_high.ensures in
    let none = subst (IsAnswer sets c.in-Some.low c.in_ok-in_low.in_low.items) (is_none_found c.in_ok-found.found c.if-is_some.ensures)
    (rw c.deref-4.ensures.value at c.in_ok-found.ensures.answer) in
    let high = rw c.deref-6.ensures.value at c.in_ok-answer-2.ensures.answer in
    answer_carried sets region c.args.left.now thin c.in_ok-thin.ensures.thin c.in_ok-answer-2.answer
    (answer_high sets region thin c.in-Some.low c.in-Some.high c.in_ok-in_low.in_low.items c.in_ok-in_high.in_high.items c.in_ok-answer-2.answer c.in-Some.ensures
    keeps keeps_high none high)
