use Rattle.sl_cube_marks.proofs.BestLemmas.{BestFirst}
use Rattle.sl_cube_marks.proofs.best.best_at.Given as goal

abbrev pub invariant-loop-rest : goal.invariant-loop-rest
invariant-loop-rest l = BestFirst l.sets l.left l.point l.found l.rest-index
