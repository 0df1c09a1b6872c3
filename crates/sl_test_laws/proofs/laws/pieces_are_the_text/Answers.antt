use Rattle.sl_test_laws.proofs.Replacement as law
use Rattle.sl_test_laws.proofs.laws.pieces_are_the_text.Goals as goal

pub returns : goal.returns
returns c = law.pieces_are
