use Rattle.sl_faithful_sections.proofs.Sound.{sections_are_sound}
use Rattle.sl_faithful_sections.proofs.sound_laws.sections_are_sound.Goals as goal

pub returns : goal.returns
returns c = sections_are_sound
