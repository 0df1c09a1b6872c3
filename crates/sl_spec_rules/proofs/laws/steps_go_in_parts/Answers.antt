use Rattle.sl_spec_rules.proofs.RunLaws.{run-append}
use Rattle.sl_spec_rules.proofs.laws.steps_go_in_parts.Goals as goal

pub returns : goal.returns
returns g c = run-append
