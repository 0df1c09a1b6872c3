use Rattle.sl_faithful_accepted.proofs.Translations.{bound_are_translated}
use Rattle.sl_faithful_accepted.proofs.laws.bound_are_translated.Goals as goal

pub returns : goal.returns
returns c = bound_are_translated
