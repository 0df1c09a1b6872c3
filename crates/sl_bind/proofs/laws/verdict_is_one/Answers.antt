use Rattle.sl_bind.proofs.VerdictLemmas.{one_verdict}
use Rattle.sl_bind.proofs.laws.verdict_is_one.Goals as goal

pub returns : goal.returns
returns c = one_verdict
