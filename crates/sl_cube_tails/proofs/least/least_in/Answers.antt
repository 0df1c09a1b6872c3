use Rattle.sl_cube_tails.proofs.SearchLemmas.{none_within, least_within}
use Rattle.sl_cube_tails.proofs.least.least_in.Goals as goal

pub returns-in_default : goal.returns-in_default
returns-in_default c =
    let none = rw (c.in_default.is, c.deref.ensures.value) at c.in_ok-found.ensures in
    none_within c.args.region.now c.args.tails.now c.args.covers.now c.in_ok-within.within.items c.in_ok-within.ensures none

pub returns : goal.returns
returns c =
    let some = rw (c.in-Some.is, c.deref.ensures.value) at c.in_ok-found.ensures in
    let fact = rw c.deref-2.ensures.value at c.in_ok-least.ensures in
    least_within c.args.region.now c.args.tails.now c.args.covers.now c.in_ok-within.within.items c.in_ok-least.least c.in_ok-within.ensures (fact some)
