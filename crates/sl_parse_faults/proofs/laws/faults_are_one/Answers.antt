use Rattle.sl_parse_faults.proofs.Places as law
use Rattle.sl_parse_faults.proofs.laws.faults_are_one.Goals as goal

pub returns : goal.returns
returns c = law.faults_are_one
