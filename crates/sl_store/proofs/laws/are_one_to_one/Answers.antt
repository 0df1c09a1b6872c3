use Rattle.sl_store.proofs.StoreLaws.{one_to_one}
use Rattle.sl_store.proofs.laws.are_one_to_one.Goals as goal

pub returns : goal.returns
returns c = one_to_one
