use Rattle.sl_faithful_sections.proofs.NameLemmas.{sections_number}
use Rattle.sl_faithful_sections.proofs.name_laws.sections_number.Goals as goal

pub returns : goal.returns
returns c = sections_number
