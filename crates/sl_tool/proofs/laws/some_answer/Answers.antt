use Rattle.sl_tool.proofs.SomeAnswer.{answer_some}
use Rattle.sl_tool.proofs.laws.some_answer.Goals as goal

pub returns : goal.returns
returns c = answer_some
