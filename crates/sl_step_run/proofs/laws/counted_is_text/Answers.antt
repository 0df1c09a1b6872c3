use Rattle.sl_step_run.proofs.LawLemmas as lemmas
use Rattle.sl_step_run.proofs.laws.counted_is_text.Goals as goal

pub returns : goal.returns
returns c = lemmas.counted_is_text
