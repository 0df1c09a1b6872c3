use Rattle.std.proofs.Common.{refl, inr}
use Rattle.sl_cube_marks.proofs.narrowing.lower_filler.Goals as goal

pub returns-in_default : goal.returns-in_default
returns-in_default c = inr (refl, (rw c.deref.ensures.value at c.fills.ensures) c.if-not-fills.false)

pub returns-then-below : goal.returns-then-below
returns-then-below c = inr (refl, (rw c.deref.ensures.value at c.fills.ensures) c.if-not-fills.false)
