use Rattle.sl_shape_constraints.proofs.PlaceLemmas.{agrees_zero}
use Rattle.sl_shape_constraints.proofs.places.context_cube.Goals as goal

pub returns : goal.returns
returns c = λ p. (λ inside. inside.1, λ agrees. (agrees_zero p.bytes, agrees))
