use Rattle.sl_test_laws.proofs.Origins as law
use Rattle.sl_test_laws.proofs.laws.lines_have_origins.Goals as goal

pub returns : goal.returns
returns c = law.lines_have
