use Rattle.sl_step_run.proofs.LawLemmas as lemmas
use Rattle.sl_step_run.proofs.laws.some_run_text.Goals as goal

pub returns : goal.returns
returns c = lemmas.some_run_text
