use Rattle.std.proofs.Common.{sym, arith}
use borrow.Author.Tests.{eqb-true}
use Rattle.sl_cube.specs.Points.{InRange}
use Rattle.sl_cube.proofs.OutsideLemmas.{keeps_meeting, least_alone, least_single, least_low, least_high, outside_part, in_the_other}
use Rattle.sl_cube.proofs.outside.+least_from.Goals as goal

pub returns-then-is_empty : goal.returns-then-is_empty
returns-then-is_empty t c = λ h.
    let range : InRange c.least.result = (omega arith, omega arith) in
    least_alone c.args.cube.now c.args.others.now c.least.result (eqb-true _ _ (sym c.if-is_empty.ensures)) range c.least.ensures

pub returns-in_default : goal.returns-in_default
returns-in_default t c = λ h. least_single c.args.cube.now c.args.others.now c.args.witness.now c.in_default.ensures h

pub returns-then-has : goal.returns-then-has
returns-then-has t c = λ h.
    let cube = c.args.cube.now in
    let others = c.args.others.now in
    let low = c.in-Some.low in
    let in_low = c.in_ok-in_low.in_low.items in
    let keeps = keeps_meeting low others in_low c.in_ok-in_low.ensures in
    let fact = rw c.deref.ensures.value at c.in_ok-least.ensures in
    least_low cube low c.in-Some.high others in_low c.in_ok-least.least c.in-Some.ensures keeps
    (fact (outside_part cube low others in_low c.args.witness.now keeps (c.has.ensures.0 c.if-has.true) h))

pub returns-in_default-found : goal.returns-in_default-found
returns-in_default-found t c = λ h.
    let cube = c.args.cube.now in
    let others = c.args.others.now in
    let low = c.in-Some.low in
    let high = c.in-Some.high in
    let in_low = c.in_ok-in_low.in_low.items in
    let in_high = c.in_ok-in_high.in_high.items in
    let keeps = keeps_meeting low others in_low c.in_ok-in_low.ensures in
    let keeps_high = keeps_meeting high others in_high c.in_ok-in_high.ensures in
    let none = rw (c.in_default-found.is, c.deref-2.ensures.value) at c.in_ok-found.ensures in
    let fact = rw c.deref-in_default-found.ensures.value at c.in_ok-least-2.ensures in
    let there = in_the_other cube low high others in_low c.args.witness.now c.in-Some.ensures keeps none h in
    least_high cube low high others in_low in_high c.in_ok-least-2.least c.in-Some.ensures keeps keeps_high none
    (fact (outside_part cube high others in_high c.args.witness.now keeps_high there h))

pub returns : goal.returns
returns t c = λ h.
    let cube = c.args.cube.now in
    let others = c.args.others.now in
    let low = c.in-Some.low in
    let in_low = c.in_ok-in_low.in_low.items in
    let keeps = keeps_meeting low others in_low c.in_ok-in_low.ensures in
    let some = rw (c.in-Some-found.is, c.deref-2.ensures.value) at c.in_ok-found.ensures in
    let fact = rw c.deref-3.ensures.value at c.in_ok-least-3.ensures in
    least_low cube low c.in-Some.high others in_low c.in_ok-least-3.least c.in-Some.ensures keeps (fact some)
