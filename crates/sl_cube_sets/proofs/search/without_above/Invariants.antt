use Rattle.sl_cube_sets.specs.Kept.{AreRight}
use Rattle.sl_cube_sets.proofs.LeftLemmas.{WithoutFirst}
use Rattle.sl_cube_sets.proofs.search.without_above.Given as goal

abbrev pub invariant-loop-candidate : goal.invariant-loop-candidate
invariant-loop-candidate l = record {
  thin : WithoutFirst l.sets l.filled l.left l.thin.items l.candidate-index;
  right : AreRight l.sets l.answers;
}
