use Rattle.sl_faithful_instructions.proofs.Counts.{trees_are_covered}
use Rattle.sl_faithful_instructions.proofs.laws.trees_are_covered.Goals as goal

pub returns : goal.returns
returns c = trees_are_covered
