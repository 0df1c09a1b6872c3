use Rattle.std.proofs.Common.{sym, ◌∙◌}
use Rattle.std.proofs.lemmas.Bool.{false≢true}
use Rattle.sl_cube_tails.proofs.SearchLemmas.{least_single, least_low, least_high, found_in, found_in_high}
use Rattle.sl_cube_tails.proofs.least.+least_from.Goals as goal

pub returns-in_default : goal.returns-in_default
returns-in_default t c = λ h. least_single c.args.region.now c.args.tails.now c.args.covers.now c.args.witness.now c.in_default.ensures h

pub returns-then-has : goal.returns-then-has
returns-then-has t c = λ h.
    let keeps = c.in_ok-in_low.ensures in
    let fact = rw c.deref.ensures.value at c.in_ok-least.ensures in
    let inside = c.has.ensures.0 c.if-has.true in
    least_low c.args.region.now c.in-Some.low c.in-Some.high c.args.tails.now c.args.covers.now c.in_ok-in_low.in_low.items c.in_ok-least.least c.in-Some.ensures keeps
    (fact (found_in c.args.region.now c.in-Some.low c.args.tails.now c.args.covers.now c.in_ok-in_low.in_low.items c.args.witness.now keeps inside h))

pub returns-in_default-found : goal.returns-in_default-found
returns-in_default-found t c = λ h.
    let keeps = c.in_ok-in_low.ensures in
    let keeps_high = c.in_ok-in_high.ensures in
    let none = rw (c.in_default-found.is, c.deref-2.ensures.value) at c.in_ok-found.ensures in
    let fact = rw c.deref-in_default-found.ensures.value at c.in_ok-least-2.ensures in
    least_high c.args.region.now c.in-Some.low c.in-Some.high c.args.tails.now c.args.covers.now c.in_ok-in_low.in_low.items c.in_ok-in_high.in_high.items c.in_ok-least-2.least
    c.in-Some.ensures keeps keeps_high none
    (fact (found_in_high c.args.region.now c.in-Some.low c.in-Some.high c.args.tails.now c.args.covers.now c.in_ok-in_high.in_high.items c.args.witness.now c.in-Some.ensures keeps_high
    (λ inside. false≢true (sym c.if-has.false ∙ c.has.ensures.1 inside)) h))

pub returns : goal.returns
returns t c = λ h.
    let region = c.args.region.now in
    let low = c.in-Some.low in
    let tails = c.args.tails.now in
    let in_low = c.in_ok-in_low.in_low.items in
    let some = rw (c.in-Some-found.is, c.deref-2.ensures.value) at c.in_ok-found.ensures in
    let fact = rw c.deref-3.ensures.value at c.in_ok-least-3.ensures in
    least_low region low c.in-Some.high tails c.args.covers.now in_low c.in_ok-least-3.least c.in-Some.ensures c.in_ok-in_low.ensures
    (fact some)
