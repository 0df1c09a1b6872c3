use Rattle.sl_spec_rules.proofs.RunLaws.{refused_at}
use Rattle.sl_spec_rules.proofs.laws.refusal_is_first.Goals as goal

pub returns : goal.returns
returns g c = refused_at
