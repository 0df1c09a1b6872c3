use Rattle.sl_test_laws.proofs.Lines as law
use Rattle.sl_test_laws.proofs.laws.all_lines_are_a_tree.Goals as goal

pub returns : goal.returns
returns c = law.all_lines
