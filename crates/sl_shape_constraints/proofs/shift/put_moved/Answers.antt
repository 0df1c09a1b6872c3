use Rattle.sl_cube.specs.Points.{IsIn}
use Rattle.sl_shape_constraints.specs.Places.{seen}
use Rattle.sl_shape_constraints.proofs.SetLemmas.{adds_cube}
use Rattle.sl_shape_constraints.proofs.shift.put_moved.Goals as goal

pub returns-in_ok-push-clause-points : goal.returns-in_ok-push-clause-points
returns-in_ok-push-clause-points c = adds_cube c.args.cubes.now.items _ c.in-Some.at_place (λ p. IsIn (seen c.args.place p) c.args.cube.now) c.in_ok-push.ensures.items c.in-Some.ensures
