use Rattle.sl_cube_sets.proofs.LeftLemmas.{KeptFirst}
use Rattle.sl_cube_sets.proofs.search.kept.Given as goal

abbrev pub invariant-loop-candidate : goal.invariant-loop-candidate
invariant-loop-candidate l = KeptFirst l.region l.left l.kept.items l.candidate-index
