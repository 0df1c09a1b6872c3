use Rattle.sl_gap_sure.proofs.SureLemmas as lemmas
use Rattle.sl_gap_sure.proofs.laws.sure_is_matched.Goals as goal

pub returns : goal.returns
returns c = lemmas.sure_is_matched
