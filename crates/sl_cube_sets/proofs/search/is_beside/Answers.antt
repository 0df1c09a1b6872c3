use Rattle.std.proofs.Common.{sym, ◌∙◌}
use Rattle.std.proofs.lemmas.Bool.{false≢true}
use Rattle.sl_cube_sets.proofs.LeftLemmas.{beside_from}
use Rattle.sl_cube_sets.proofs.search.is_beside.Goals as goal

pub returns-then-other-set : goal.returns-then-other-set
returns-then-other-set c = λ inside ne. absurd (ne c.if-other-set.true)

pub returns-then-not-is_in_some : goal.returns-then-not-is_in_some
returns-then-not-is_in_some c = λ inside ne.
    let has = rw c.as_slice.ensures.value at c.is_in_some.ensures in
    absurd (false≢true (sym c.if-not-is_in_some.true ∙ has.1 inside))

pub returns : goal.returns
returns c =
    let has = rw c.as_slice.ensures.value at c.is_in_some.ensures in
    beside_from c.args.sets.now c.args.point.now c.args.set c.args.other.now c.in_ok-below.below (has.0 c.if-not-is_in_some.false) c.if-other-set.false c.in_ok-below.ensures
