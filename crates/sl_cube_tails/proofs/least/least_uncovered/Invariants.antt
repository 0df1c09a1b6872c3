use Rattle.sl_cube_sets.specs.Sets.{IsLeastOf}
use Rattle.sl_cube_sets.proofs.FirstLemmas.{InFirst}
use Rattle.sl_cube_tails.proofs.SearchLemmas.{HasUncovered}
use Rattle.sl_cube_tails.proofs.least.least_uncovered.Given as goal

abbrev pub invariant-loop-cube : goal.invariant-loop-cube
invariant-loop-cube l = IsLeastOf (InFirst (HasUncovered l.tails l.covers) l.cubes l.cube-index) l.best
