use Rattle.sl_gap_holes.proofs.CoverLemmas.{AllFirst}
use Rattle.sl_gap_holes.proofs.covers.put_all.Given as goal

abbrev pub invariant-loop-cube : goal.invariant-loop-cube
invariant-loop-cube l = AllFirst l.cubes l.fn.covers.items l.covers.items l.cube-index
