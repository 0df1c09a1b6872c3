use Rattle.sl_asm_lines.proofs.OutcomeLemmas as lemmas
use Rattle.sl_asm_lines.proofs.laws.some_outcome.Goals as goal

pub returns : goal.returns
returns c = lemmas.some_outcome
