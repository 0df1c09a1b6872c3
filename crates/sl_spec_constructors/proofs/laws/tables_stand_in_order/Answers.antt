use Rattle.sl_spec_constructors.proofs.TableLemmas.{each_is_added, its_is_added}
use Rattle.sl_spec_constructors.proofs.laws.tables_stand_in_order.Goals as goal

pub returns-clause-step : goal.returns-clause-step
returns-clause-step c = its_is_added

pub returns-clause-all : goal.returns-clause-all
returns-clause-all c = each_is_added
