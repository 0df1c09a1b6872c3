use Rattle.sl_cube_sets.specs.Sets.{IsLeastOf}
use Rattle.sl_cube_sets.proofs.FirstLemmas.{InFirst, HasOutside}
use Rattle.sl_cube_sets.proofs.points.least_in_none.Given as goal

abbrev pub invariant-loop-cube : goal.invariant-loop-cube
invariant-loop-cube l = IsLeastOf (InFirst (HasOutside l.others) l.cubes l.cube-index) l.best
