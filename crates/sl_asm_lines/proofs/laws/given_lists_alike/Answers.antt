use Rattle.sl_asm_lines.proofs.LawLemmas as lemmas
use Rattle.sl_asm_lines.proofs.laws.given_lists_alike.Goals as goal

pub returns : goal.returns
returns c = lemmas.given_lists_alike
