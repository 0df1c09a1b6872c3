use Rattle.sl_faithful_sections.proofs.NameLemmas.{sections_name}
use Rattle.sl_faithful_sections.proofs.name_laws.sections_name.Goals as goal

pub returns : goal.returns
returns c = sections_name
