use Rattle.sl_spec_rules.proofs.RunLaws.{first_broken-names}
use Rattle.sl_spec_rules.proofs.laws.first_broken_is_first.Goals as goal

pub returns : goal.returns
returns c = first_broken-names
