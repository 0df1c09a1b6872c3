use Rattle.sl_pcode.proofs.StepLaws.{runs_are_steps}
use Rattle.sl_pcode.proofs.laws.runs_are_steps.Goals as goal

pub returns : goal.returns
returns c = runs_are_steps
