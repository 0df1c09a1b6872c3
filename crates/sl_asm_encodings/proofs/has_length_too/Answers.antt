use Rattle.sl_asm_encodings.proofs.LawLemmas.{has_length_too}
use Rattle.sl_asm_encodings.proofs.has_length_too.Goals as goal

pub returns : goal.returns
returns c = has_length_too
