use Rattle.sl_faithful_accepted.proofs.Translated.{choices_are_of_tables}
use Rattle.sl_faithful_accepted.proofs.text_laws.choices_are_of_tables.Goals as goal

pub returns : goal.returns
returns c = choices_are_of_tables
