use Rattle.sl_bind.proofs.VerdictLemmas.{some_verdict}
use Rattle.sl_bind.proofs.laws.some_verdict.Goals as goal

pub returns : goal.returns
returns c = some_verdict
