use Rattle.std.proofs.Common.{sym, ◌∙◌}
use Rattle.std.proofs.lemmas.Bool.{false≢true}
use Rattle.sl_cube_sets.proofs.search.is_best.Goals as goal

pub returns-then-not-is_in_some : goal.returns-then-not-is_in_some
returns-then-not-is_in_some c =
    let has = rw c.as_slice.ensures.value at c.is_in_some.ensures in (
      λ t. absurd (false≢true t),
      λ both. absurd (false≢true (sym c.if-not-is_in_some.true ∙ has.1 both.0)),
    )

pub returns : goal.returns
returns c =
    let has = rw c.as_slice.ensures.value at c.is_in_some.ensures in (
      λ t. (has.0 c.if-not-is_in_some.false, c.in_ok-lowest.ensures.0 t),
      λ both. c.in_ok-lowest.ensures.1 both.1,
    )
