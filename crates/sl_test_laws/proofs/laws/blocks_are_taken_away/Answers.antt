use Rattle.sl_test_laws.proofs.Blocks as law
use Rattle.sl_test_laws.proofs.laws.blocks_are_taken_away.Goals as goal

pub returns : goal.returns
returns c = law.taken_away
