use Rattle.std.proofs.Common.{ℕ, ◌<◌}
use Rattle.std.specs.List.{HoldsAt}
use Rattle.sl_cube_marks.proofs.MarkLemmas.{MarkedIfThere}
use Rattle.sl_cube_marks.proofs.marks.are_marked.Given as goal

abbrev pub invariant-loop-rest : goal.invariant-loop-rest
invariant-loop-rest l = (k : ℕ) → k < l.rest-index → HoldsAt (MarkedIfThere l.marks) l.left k
