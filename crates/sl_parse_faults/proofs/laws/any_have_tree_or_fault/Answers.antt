use Rattle.sl_parse_faults.proofs.Places as law
use Rattle.sl_parse_faults.proofs.laws.any_have_tree_or_fault.Goals as goal

pub returns : goal.returns
returns c = law.any_have
