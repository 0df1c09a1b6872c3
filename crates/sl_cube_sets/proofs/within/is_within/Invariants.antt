use Rattle.sl_cube_sets.proofs.WithinLemmas.{FirstWithin}
use Rattle.sl_cube_sets.proofs.within.is_within.Given as goal

abbrev pub invariant-loop-cube : goal.invariant-loop-cube
invariant-loop-cube l = FirstWithin l.inner l.outer l.cube-index
