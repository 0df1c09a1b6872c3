use Rattle.sl_parse_faults.proofs.Places as law
use Rattle.sl_parse_faults.proofs.laws.trees_have_no_fault.Goals as goal

pub returns : goal.returns
returns c = law.trees_have_none
