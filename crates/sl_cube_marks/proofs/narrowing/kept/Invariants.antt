use Rattle.sl_cube_marks.proofs.RestLemmas.{KeptFirst}
use Rattle.sl_cube_marks.proofs.narrowing.kept.Given as goal

abbrev pub invariant-loop-rest : goal.invariant-loop-rest
invariant-loop-rest l = KeptFirst l.sets l.region l.filled l.left l.kept.items l.rest-index
