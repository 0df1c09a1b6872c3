use Rattle.sl_step_run.proofs.LawLemmas as lemmas
use Rattle.sl_step_run.proofs.laws.run_text_is_one.Goals as goal

pub returns : goal.returns
returns c = lemmas.run_text_is_one
