use Rattle.sl_base_graphs.proofs.Closure.{told}
use Rattle.sl_base_graphs.proofs.laws.reaching_is_told.Goals as goal

pub returns : goal.returns
returns c = told
