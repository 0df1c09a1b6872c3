use Rattle.sl_asm_encodings.proofs.LawLemmas.{encodes_one_text}
use Rattle.sl_asm_encodings.proofs.encodes_one_text.Goals as goal

pub returns : goal.returns
returns c = encodes_one_text
