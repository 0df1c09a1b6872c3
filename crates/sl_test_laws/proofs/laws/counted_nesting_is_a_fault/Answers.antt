use Rattle.sl_test_laws.proofs.Counting as law
use Rattle.sl_test_laws.proofs.laws.counted_nesting_is_a_fault.Goals as goal

pub returns : goal.returns
returns c = law.counted_is_a_fault
