use Rattle.std.proofs.Common.{ℕ, ◌<◌}
use Rattle.sl_cube_sets.specs.Sets.{IsPair}
use Rattle.sl_cube_sets.specs.Unions.{has_set}
use Rattle.sl_cube_sets.proofs.pair.first_pair.Given as goal

abbrev pub invariant-loop-first : goal.invariant-loop-first
invariant-loop-first l = (k j : ℕ) → k < l.first → IsPair has_set l.sets l.point k j → ⊥
