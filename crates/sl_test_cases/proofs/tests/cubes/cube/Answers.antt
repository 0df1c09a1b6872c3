use Rattle.std.proofs.Common.{refl}
use Rattle.sl_cube.proofs.BitLemmas.{and_within}
use Rattle.sl_test_cases.proofs.tests.cubes.cube.Goals as goal

pub invariant_of-result : goal.invariant_of-result
invariant_of-result c = record { within = and_within _ _; ctx_within = refl }
