use Rattle.sl_cube_marks.proofs.RestLemmas.{TalliedFirst}
use Rattle.sl_cube_marks.proofs.narrowing.halved.Given as goal

abbrev pub invariant-loop-rest : goal.invariant-loop-rest
invariant-loop-rest l = TalliedFirst l.region l.left l.rest-index l.tally.shortest
