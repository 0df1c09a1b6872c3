use Rattle.sl_cube_sets.specs.Sets.{IsLeastOf}
use Rattle.sl_cube_sets.proofs.FirstLemmas.{InFirst, HasPoint}
use Rattle.sl_cube_sets.proofs.points.least_of.Given as goal

abbrev pub invariant-loop-cube : goal.invariant-loop-cube
invariant-loop-cube l = IsLeastOf (InFirst HasPoint l.cubes l.cube-index) l.best
