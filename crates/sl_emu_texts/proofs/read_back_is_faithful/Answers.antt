use Rattle.sl_emu_texts.proofs.TextLemmas.{read_back_is_faithful}
use Rattle.sl_emu_texts.proofs.read_back_is_faithful.Goals as goal

pub returns : goal.returns
returns c = read_back_is_faithful
