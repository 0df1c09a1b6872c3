use Rattle.sl_parse_grammar.proofs.Faults.{none_begins}
use Rattle.sl_parse_grammar.proofs.laws.faults_begin_no_tree.Goals as goal

pub returns : goal.returns
returns c = none_begins
