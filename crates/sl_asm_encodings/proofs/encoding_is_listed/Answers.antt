use Rattle.sl_asm_encodings.proofs.LawLemmas.{encoding_is_listed}
use Rattle.sl_asm_encodings.proofs.encoding_is_listed.Goals as goal

pub returns : goal.returns
returns c = encoding_is_listed
