use Rattle.sl_test_laws.proofs.Replacement as law
use Rattle.sl_test_laws.proofs.laws.levels_only_refuse.Goals as goal

pub returns : goal.returns
returns c = law.levels_refuse
