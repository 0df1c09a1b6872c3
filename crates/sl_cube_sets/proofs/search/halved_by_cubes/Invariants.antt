use Rattle.sl_cube_sets.proofs.LeftLemmas.{TalliedFirst}
use Rattle.sl_cube_sets.proofs.search.halved_by_cubes.Given as goal

abbrev pub invariant-loop-candidate : goal.invariant-loop-candidate
invariant-loop-candidate l = TalliedFirst l.region l.left l.candidate-index l.tally.shortest
