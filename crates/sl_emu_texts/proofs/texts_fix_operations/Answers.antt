use Rattle.sl_emu_texts.proofs.TextLemmas.{texts_fix_operations}
use Rattle.sl_emu_texts.proofs.texts_fix_operations.Goals as goal

pub returns : goal.returns
returns c = texts_fix_operations
