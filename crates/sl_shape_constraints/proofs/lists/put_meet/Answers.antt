use Rattle.sl_cube.specs.Points.{IsIn}
use Rattle.sl_shape_constraints.proofs.SetLemmas.{adds_cube}
use Rattle.sl_shape_constraints.proofs.lists.put_meet.Goals as goal

pub returns-in_ok-push-clause-points : goal.returns-in_ok-push-clause-points
returns-in_ok-push-clause-points c = adds_cube c.args.met.now.items _ c.in-Some.both (λ p. IsIn p c.args.cube.now × IsIn p c.args.other.now) c.in_ok-push.ensures.items (λ p range. c.in-Some.ensures.points p)
