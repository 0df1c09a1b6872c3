use Rattle.sl_parse_grammar.proofs.Faults as law
use Rattle.sl_parse_grammar.proofs.laws.trees_are_read.Goals as goal

pub returns : goal.returns
returns c = law.complete
