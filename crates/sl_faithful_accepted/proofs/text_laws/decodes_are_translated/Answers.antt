use Rattle.sl_faithful_accepted.proofs.Translated.{decodes_are_translated}
use Rattle.sl_faithful_accepted.proofs.text_laws.decodes_are_translated.Goals as goal

pub returns : goal.returns
returns c = decodes_are_translated
