use Rattle.sl_faithful_instructions.proofs.Decoded.{instructions_are_translated}
use Rattle.sl_faithful_instructions.proofs.laws.instructions_are_translated.Goals as goal

pub returns : goal.returns
returns c = instructions_are_translated
