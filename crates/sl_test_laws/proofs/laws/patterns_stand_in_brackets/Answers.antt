use Rattle.sl_test_laws.proofs.Blocks as law
use Rattle.sl_test_laws.proofs.laws.patterns_stand_in_brackets.Goals as goal

pub returns : goal.returns
returns c = law.patterns_are
