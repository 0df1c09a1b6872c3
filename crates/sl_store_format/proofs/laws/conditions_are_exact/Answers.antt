use Rattle.sl_store_format.proofs.ConditionLaws.{conditions_exact}
use Rattle.sl_store_format.proofs.laws.conditions_are_exact.Goals as goal

pub returns : goal.returns
returns c = conditions_exact
