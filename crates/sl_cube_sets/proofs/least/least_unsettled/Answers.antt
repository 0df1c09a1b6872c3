use Rattle.std.proofs.Common.{refl}
use Rattle.sl_cube_sets.proofs.LeastLemmas.{whole_cube, first_none, first_some}
use Rattle.sl_cube_sets.proofs.least.least_unsettled.Goals as goal

pub returns-in_default : goal.returns-in_default
returns-in_default c =
    let none = rw (c.in_default.is, c.deref.ensures.value) at c.in_ok-found.ensures.answer in
    first_none c.args.sets.now whole_cube c.in_ok-left.left.items refl refl c.in_ok-left.ensures none

pub returns : goal.returns
returns c =
    let some = rw (c.in-Some.is, c.deref.ensures.value) at c.in_ok-found.ensures.answer in
    let fact = rw c.deref-2.ensures.value at c.in_ok-least.ensures in
    first_some c.args.sets.now _ c.in_ok-left.left.items c.in_ok-least.least refl refl c.in_ok-left.ensures (fact some)
