use Rattle.sl_gap_holes.proofs.CoverLemmas.{MovedFirst}
use Rattle.sl_gap_holes.proofs.covers.put_moved.Given as goal

abbrev pub invariant-loop-cube : goal.invariant-loop-cube
invariant-loop-cube l = MovedFirst l.place l.cubes l.fn.covers.items l.covers.items l.cube-index
