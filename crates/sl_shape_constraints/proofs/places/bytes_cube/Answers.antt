use Rattle.sl_shape_constraints.proofs.PlaceLemmas.{agrees_zero}
use Rattle.sl_shape_constraints.proofs.places.bytes_cube.Goals as goal

pub returns : goal.returns
returns c = λ p. (λ inside. inside.0, λ agrees. (agrees, agrees_zero p.context))
