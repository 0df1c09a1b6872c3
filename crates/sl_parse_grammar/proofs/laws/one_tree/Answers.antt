use Rattle.sl_parse_grammar.proofs.Faults as law
use Rattle.sl_parse_grammar.proofs.laws.one_tree.Goals as goal

pub returns : goal.returns
returns c = law.one_tree
