use Rattle.sl_faithful_sections.proofs.Used.{tables_are_used}
use Rattle.sl_faithful_sections.proofs.use_laws.tables_are_used.Goals as goal

pub returns : goal.returns
returns c = tables_are_used
