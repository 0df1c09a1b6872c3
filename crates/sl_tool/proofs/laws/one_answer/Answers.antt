use Rattle.sl_tool.proofs.OneAnswer.{answer_one}
use Rattle.sl_tool.proofs.laws.one_answer.Goals as goal

pub returns : goal.returns
returns c = answer_one
