use Rattle.sl_faithful_instructions.proofs.Shapes.{decodes_are_shaped}
use Rattle.sl_faithful_instructions.proofs.laws.decodes_are_shaped.Goals as goal

pub returns : goal.returns
returns c = decodes_are_shaped
