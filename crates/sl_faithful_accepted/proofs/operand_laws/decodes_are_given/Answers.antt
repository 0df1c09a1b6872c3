use Rattle.sl_faithful_accepted.proofs.TreeLemmas.{decodes_are_given}
use Rattle.sl_faithful_accepted.proofs.operand_laws.decodes_are_given.Goals as goal

pub returns : goal.returns
returns c = decodes_are_given
