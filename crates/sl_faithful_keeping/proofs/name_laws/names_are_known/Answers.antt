use Rattle.sl_faithful_keeping.proofs.StepNames.{names_are_known}
use Rattle.sl_faithful_keeping.proofs.name_laws.names_are_known.Goals as goal

pub returns : goal.returns
returns c = names_are_known
