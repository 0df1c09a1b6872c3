use Rattle.sl_asm_encodings.proofs.ReadingLemmas.{decode_is_read_back}
use Rattle.sl_asm_encodings.proofs.decode_is_read_back.Goals as goal

pub returns : goal.returns
returns c = decode_is_read_back
