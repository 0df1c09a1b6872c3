use Rattle.sl_asm_lines.proofs.LawLemmas as lemmas
use Rattle.sl_asm_lines.proofs.laws.unedited_never_fails.Goals as goal

pub returns : goal.returns
returns c = lemmas.unedited_never_fails
