use Rattle.sl_step_run.proofs.CountedLemmas as lemmas
use Rattle.sl_step_run.proofs.counted_laws.some_counted_run_text.Goals as goal

pub returns : goal.returns
returns c = lemmas.some_counted_text
