use Rattle.sl_parse_grammar.proofs.Faults.{faults_stay}
use Rattle.sl_parse_grammar.proofs.laws.faults_stay.Goals as goal

pub returns : goal.returns
returns c = faults_stay
