use Rattle.sl_faithful_accepted.proofs.Translations.{bound_have_translations}
use Rattle.sl_faithful_accepted.proofs.laws.bound_have_translations.Goals as goal

pub returns : goal.returns
returns c = bound_have_translations
