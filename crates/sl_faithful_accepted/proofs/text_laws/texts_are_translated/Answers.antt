use Rattle.sl_faithful_accepted.proofs.Translated.{texts_are_translated}
use Rattle.sl_faithful_accepted.proofs.text_laws.texts_are_translated.Goals as goal

pub returns : goal.returns
returns c = texts_are_translated
