use Rattle.sl_cube_marks.proofs.RestLemmas.{AllFirst}
use Rattle.sl_cube_marks.proofs.marks.all_of.Given as goal

abbrev pub invariant-loop-index : goal.invariant-loop-index
invariant-loop-index l = AllFirst l.sets l.region l.left.items l.index
