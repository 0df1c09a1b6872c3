use Rattle.sl_pcode.proofs.StepLaws.{one_result}
use Rattle.sl_pcode.proofs.laws.lists_have_one_result.Goals as goal

pub returns : goal.returns
returns c = one_result
