use Rattle.sl_cube.specs.Search.{IsSomeFound}
use Rattle.sl_cube.proofs.OutsideLemmas.{some_high, some_first, if_ok_more}
use Rattle.sl_cube.proofs.outside.+some_outside.Goals as goal

pub returns-in-None : goal.returns-in-None
returns-in-None t c =
    let rest = c.in-Some.rest in
    let kept = c.in-Some.kept.items in
    let back = rw c.in-Some.is at c.in_ok-rest.ensures in
    let halved = c.in-Some-favoured_halves.ensures in
    let none = rw (c.in-None.is, c.deref-3.ensures.value) at c.in_ok-found.ensures in
    let found = rw c.deref-in-None.ensures.value at c.some_outside-in-None.ensures in
    if_ok_more (IsSomeFound c.in-Some-favoured_halves.high kept) (IsSomeFound c.args.cube.now c.args.others.now)
    (λ answer h. back.answers answer (some_high rest kept c.in-Some-favoured_halves.low c.in-Some-favoured_halves.high answer halved none h))
    c.some_outside-in-None.result found

pub returns : goal.returns
returns t c =
    let back = rw c.in-Some.is at c.in_ok-rest.ensures in
    let halved = c.in-Some-favoured_halves.ensures in
    let found = rw c.deref-3.ensures.value at c.in_ok-found.ensures in
    back.answers c.in_ok-found.found (some_first c.in-Some.rest c.in-Some.kept.items c.in-Some-favoured_halves.low c.in-Some-favoured_halves.high c.in_ok-found.found
    halved found c.in_default-2.not-None)
