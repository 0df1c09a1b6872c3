use Rattle.sl_emu_texts.proofs.TextLemmas.{faithful_have_operations}
use Rattle.sl_emu_texts.proofs.faithful_have_operations.Goals as goal

pub returns : goal.returns
returns c = faithful_have_operations
