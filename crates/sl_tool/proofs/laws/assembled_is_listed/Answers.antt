use Rattle.sl_tool.proofs.AssembledLemmas.{assembled_listed}
use Rattle.sl_tool.proofs.laws.assembled_is_listed.Goals as goal

pub returns : goal.returns
returns c = assembled_listed
