use Rattle.sl_emu_texts.proofs.TextLemmas.{lists_are_implemented}
use Rattle.sl_emu_texts.proofs.lists_are_implemented.Goals as goal

pub returns : goal.returns
returns c = lists_are_implemented
