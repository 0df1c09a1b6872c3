use Rattle.sl_faithful_accepted.proofs.Choices.{choices_are_own}
use Rattle.sl_faithful_accepted.proofs.laws.choices_are_own.Goals as goal

pub returns : goal.returns
returns c = choices_are_own
