use Rattle.sl_cube.specs.Search.{Narrows}
use Rattle.sl_cube.proofs.outside.narrowed.Given as goal

abbrev pub invariant-loop-other : goal.invariant-loop-other
invariant-loop-other l = Narrows l.cube l.others l.rest
