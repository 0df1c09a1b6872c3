use Rattle.sl_faithful_keeping.proofs.Rules.{sections_keep_rules}
use Rattle.sl_faithful_keeping.proofs.keeping_laws.sections_keep_rules.Goals as goal

pub returns : goal.returns
returns c = sections_keep_rules
