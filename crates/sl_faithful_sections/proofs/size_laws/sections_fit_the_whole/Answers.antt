use Rattle.sl_faithful_sections.proofs.Whole.{fit_the_whole}
use Rattle.sl_faithful_sections.proofs.size_laws.sections_fit_the_whole.Goals as goal

pub returns : goal.returns
returns c = fit_the_whole
