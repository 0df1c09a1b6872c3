use Rattle.sl_tool.proofs.AlikeLemmas.{packed_alike}
use Rattle.sl_tool.proofs.laws.packed_is_alike.Goals as goal

pub returns : goal.returns
returns c = packed_alike
