use Rattle.sl_preproc.proofs.MainLemmas.{asked_first}
use Rattle.sl_preproc.proofs.laws.main_is_first.Goals as goal

pub returns : goal.returns
returns c = asked_first
