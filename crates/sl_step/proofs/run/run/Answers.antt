use Rattle.sl_step.proofs.ByteLemmas.{effects_are_bytes}
use Rattle.sl_step.proofs.run.run.Goals as goal

pub returns-in-Ok-clause-bytes : goal.returns-in-Ok-clause-bytes
returns-in-Ok-clause-bytes g c = effects_are_bytes _ _ _ _ _ _ c.requires.bytes c.run.ensures.effects

pub returns-in-Err-clause-bytes : goal.returns-in-Err-clause-bytes
returns-in-Err-clause-bytes g c = effects_are_bytes _ _ _ _ _ _ c.requires.bytes c.run.ensures.effects
