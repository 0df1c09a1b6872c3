use Rattle.std.proofs.Common.{inl}
use Rattle.sl_cube_marks.proofs.narrowing.put_unless_above.Goals as goal

pub returns : goal.returns
returns c = inl (rw c.deref.ensures.value at c.in_ok-put.ensures)
