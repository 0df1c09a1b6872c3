use Rattle.sl_faithful_accepted.proofs.TakenLemmas.{taken_are_read}
use Rattle.sl_faithful_accepted.proofs.operand_laws.taken_are_read.Goals as goal

pub returns : goal.returns
returns c = taken_are_read
