use Rattle.sl_cube_sets.proofs.LeastLemmas.{AllFirst}
use Rattle.sl_cube_sets.proofs.least.all_of.Given as goal

abbrev pub invariant-loop-index : goal.invariant-loop-index
invariant-loop-index l = AllFirst l.sets l.left.items l.index
