use Rattle.sl_bind.proofs.VerdictLemmas.{are_in_order}
use Rattle.sl_bind.proofs.laws.taken_are_in_order.Goals as goal

pub returns : goal.returns
returns c = are_in_order
