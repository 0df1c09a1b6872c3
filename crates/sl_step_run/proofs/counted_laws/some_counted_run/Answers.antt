use Rattle.sl_step_run.proofs.CountedLemmas as lemmas
use Rattle.sl_step_run.proofs.counted_laws.some_counted_run.Goals as goal

pub returns : goal.returns
returns c = lemmas.some_counted_outcome
