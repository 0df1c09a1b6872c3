use Rattle.sl_faithful_limits.proofs.StepParts.{parts_take_tokens}
use Rattle.sl_faithful_limits.proofs.part_laws.parts_take_tokens.Goals as goal

pub returns : goal.returns
returns c = parts_take_tokens
