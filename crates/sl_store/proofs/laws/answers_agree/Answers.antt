use Rattle.sl_store.proofs.StoreLaws.{agree}
use Rattle.sl_store.proofs.laws.answers_agree.Goals as goal

pub returns : goal.returns
returns c = agree
