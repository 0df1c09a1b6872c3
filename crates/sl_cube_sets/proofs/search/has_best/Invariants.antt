use Rattle.std.proofs.Common.{ℕ, ◌<◌}
use Rattle.std.specs.List.{HoldsAt}
use Rattle.sl_cube.specs.Points.{IsInSome}
use Rattle.sl_cube_sets.specs.Left.{cubes_of, IsLowest}
use Rattle.sl_cube_sets.specs.declared.candidate.Candidate.{Candidate}
use Rattle.sl_cube_sets.proofs.search.has_best.Given as goal

abbrev pub invariant-loop-candidate : goal.invariant-loop-candidate
invariant-loop-candidate l = (k : ℕ) → k < l.candidate-index → HoldsAt (λ (c : Candidate). IsInSome (cubes_of c) l.point × IsLowest l.sets l.left l.point c.set → ⊥) l.left k
