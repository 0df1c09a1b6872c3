use Rattle.sl_cube.specs.Tallies.{IsOpenIfSome}
use Rattle.sl_cube_sets.proofs.search.halved_by_hulls.Given as goal

abbrev pub invariant-loop-candidate : goal.invariant-loop-candidate
invariant-loop-candidate l = IsOpenIfSome l.region l.tally.shortest
