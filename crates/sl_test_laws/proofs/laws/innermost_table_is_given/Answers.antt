use Rattle.sl_test_laws.proofs.Blocks as law
use Rattle.sl_test_laws.proofs.laws.innermost_table_is_given.Goals as goal

pub returns : goal.returns
returns c = law.table_is
