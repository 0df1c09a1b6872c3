use Rattle.sl_test_laws.proofs.Within as law
use Rattle.sl_test_laws.proofs.laws.counted_trees_are_within.Goals as goal

pub returns : goal.returns
returns c = law.within_by_count
