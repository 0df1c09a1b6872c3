use Rattle.sl_store.proofs.StoreLaws.{verdicts}
use Rattle.sl_store.proofs.laws.each_has_a_verdict.Goals as goal

pub returns : goal.returns
returns c = verdicts
