use Rattle.sl_test_laws.proofs.Past as law
use Rattle.sl_test_laws.proofs.laws.nesting_is_counted.Goals as goal

pub returns : goal.returns
returns c = law.nesting_is_counted
