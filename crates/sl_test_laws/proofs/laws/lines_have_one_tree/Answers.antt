use Rattle.sl_test_laws.proofs.Lines as law
use Rattle.sl_test_laws.proofs.laws.lines_have_one_tree.Goals as goal

pub returns : goal.returns
returns c = law.one_tree
