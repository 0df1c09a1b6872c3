use Rattle.sl_section_sizes.proofs.OneLemmas.{one_outcome}
use Rattle.sl_section_sizes.proofs.laws.outcome_is_one.Goals as goal

pub returns : goal.returns
returns c = one_outcome
