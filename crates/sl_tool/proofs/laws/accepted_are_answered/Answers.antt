use Rattle.sl_tool.proofs.CompleteLemmas.{accepted_answered}
use Rattle.sl_tool.proofs.laws.accepted_are_answered.Goals as goal

pub returns : goal.returns
returns c = accepted_answered
