use Rattle.sl_faithful_limits.proofs.Limits.{trees_are_limited}
use Rattle.sl_faithful_limits.proofs.tree_laws.trees_are_limited.Goals as goal

pub returns : goal.returns
returns c = trees_are_limited
