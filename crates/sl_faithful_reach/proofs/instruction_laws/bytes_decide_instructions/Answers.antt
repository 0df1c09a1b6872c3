use Rattle.sl_faithful_reach.proofs.TreeLemmas.{bytes_decide_instructions}
use Rattle.sl_faithful_reach.proofs.instruction_laws.bytes_decide_instructions.Goals as goal

pub returns : goal.returns
returns c = bytes_decide_instructions
