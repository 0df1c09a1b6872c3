use Rattle.sl_cube_sets.proofs.HullLemmas.{HullWhere, IsInFirst}
use Rattle.sl_cube_sets.proofs.hull.hull_of.Given as goal

abbrev pub invariant-loop-cube : goal.invariant-loop-cube
invariant-loop-cube l = HullWhere (IsInFirst l.cubes l.cube-index) l.hull
