use Rattle.sl_test_laws.proofs.Blocks as law
use Rattle.sl_test_laws.proofs.laws.actions_stand_in_order.Goals as goal

pub returns : goal.returns
returns c = law.actions_are
