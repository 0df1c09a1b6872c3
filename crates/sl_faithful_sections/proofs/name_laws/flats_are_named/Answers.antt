use Rattle.sl_faithful_sections.proofs.FlatLemmas.{flats_are_named}
use Rattle.sl_faithful_sections.proofs.name_laws.flats_are_named.Goals as goal

pub returns : goal.returns
returns c = flats_are_named
