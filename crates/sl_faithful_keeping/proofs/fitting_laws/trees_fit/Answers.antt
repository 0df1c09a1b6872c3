use Rattle.sl_faithful_keeping.proofs.Trees.{trees_fit}
use Rattle.sl_faithful_keeping.proofs.fitting_laws.trees_fit.Goals as goal

pub returns : goal.returns
returns c = trees_fit
