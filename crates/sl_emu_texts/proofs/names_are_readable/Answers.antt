use Rattle.sl_emu_texts.proofs.TextLemmas.{names_are_readable}
use Rattle.sl_emu_texts.proofs.names_are_readable.Goals as goal

pub returns : goal.returns
returns c = names_are_readable
