use Rattle.std.proofs.Common.{ℕ, ◌<◌, ◌≢◌}
use Rattle.std.specs.List.{HoldsAt}
use Rattle.sl_cube.specs.Points.{IsInSome}
use Rattle.sl_cube_sets.specs.Unions.{IsBelow}
use Rattle.sl_cube_sets.specs.declared.candidate.Candidate.{Candidate}
use Rattle.sl_cube_sets.specs.Left.{cubes_of}
use Rattle.sl_cube_sets.proofs.search.is_lowest.Given as goal

abbrev pub invariant-loop-other : goal.invariant-loop-other
invariant-loop-other l = (k : ℕ) → k < l.other-index → HoldsAt (λ (c : Candidate). IsInSome (cubes_of c) l.point → c.set ≢ l.set → IsBelow l.sets l.set c.set) l.left k
