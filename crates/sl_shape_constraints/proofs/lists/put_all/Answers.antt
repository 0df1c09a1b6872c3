use Rattle.std.proofs.Common.{◌<◌, ◌≤◌, List, ap, length, arith}
use Rattle.std.proofs.lemmas.List.{length_push}
use Rattle.sl_cube.specs.Points.{IsIn, IsInSome}
use Rattle.sl_cube.specs.declared.Cube.{Cube}
use Rattle.sl_shape_constraints.proofs.SetLemmas.{adds_cube}
use Rattle.sl_shape_constraints.proofs.LoopLemmas.{first_none, first_more, first_all}
use Rattle.sl_shape_constraints.proofs.lists.put_all.Goals as goal

pub loop-other-init : goal.loop-other-init
loop-other-init c =
    record { points = first_none (λ p x. IsIn p x) c.args.others.now c.args.cubes.now.items; few = omega arith }

pub loop-other-preserved : goal.loop-other-preserved
loop-other-preserved c =
    let below : c.loop-other.other-index < length c.args.others.now = omega arith in
    record {
      points = first_more (λ p x. IsIn p x) c.args.others.now c.args.cubes.now.items c.loop-other.cubes.items _ c.loop-other.other-index c.other-item.result
          below c.other-item.is c.loop-other.invariant.points
          (adds_cube c.loop-other.cubes.items _ c.other-item.result (λ p. IsIn p c.other-item.result) c.in_ok-push.ensures.items (λ p range. (λ i. i, λ i. i)));
      few = omega (arith, c.loop-other.invariant.few, length_push c.loop-other.cubes.items c.other-item.result, ap (λ (xs : List Cube). length xs) c.in_ok-push.ensures.items);
    }

pub returns-clause-points : goal.returns-clause-points
returns-clause-points c =
    let all : length c.args.others.now ≤ c.loop-other.other-index = omega arith in
    first_all (λ p x. IsIn p x) c.args.others.now c.args.cubes.now.items c.loop-other.cubes.items (λ p. IsInSome c.args.others.now p) c.loop-other.other-index all
    (λ p q. q) (λ p x. x) c.loop-other.invariant.points
