use Rattle.std.proofs.Common.{ℕ, ◌<◌}
use Rattle.sl_cube_sets.specs.Sets.{IsPair}
use Rattle.sl_cube_sets.specs.Unions.{has_set}
use Rattle.sl_cube_sets.proofs.pair.first_beside.Given as goal

abbrev pub invariant-loop-second : goal.invariant-loop-second
invariant-loop-second l = (j : ℕ) → j < l.second → IsPair has_set l.sets l.point l.first j → ⊥
