use Rattle.std.proofs.Common.{sym, ◌∙◌}
use Rattle.std.proofs.lemmas.Bool.{false≢true}
use Rattle.sl_cube_marks.proofs.BestLemmas.{better_out, better_first, better_below}
use Rattle.sl_cube_marks.proofs.best.better.Goals as goal

pub returns-then-not-is_in_some : goal.returns-then-not-is_in_some
returns-then-not-is_in_some c =
    let tells = rw c.deref.ensures.value at c.is_in_some.ensures in
    better_out c.args.sets.now c.args.point.now c.args.rest.now c.args.found (λ inside. false≢true (sym c.if-not-is_in_some.true ∙ tells.1 inside))

pub returns-in_default : goal.returns-in_default
returns-in_default c =
    let tells = rw c.deref.ensures.value at c.is_in_some.ensures in
    rw c.in_default.is (better_first c.args.sets.now c.args.point.now c.args.rest.now (tells.0 c.if-not-is_in_some.false))

pub returns-then-below : goal.returns-then-below
returns-then-below c =
    let tells = rw c.deref.ensures.value at c.is_in_some.ensures in
    rw c.in-Some.is (better_below c.args.sets.now c.args.point.now c.args.rest.now c.in-Some.other (tells.0 c.if-not-is_in_some.false)
    (c.in_ok-below.ensures.0 c.if-below.true))
