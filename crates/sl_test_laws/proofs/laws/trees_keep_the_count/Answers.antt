use Rattle.sl_test_laws.proofs.Counting as law
use Rattle.sl_test_laws.proofs.laws.trees_keep_the_count.Goals as goal

pub returns : goal.returns
returns c = law.trees_keep
