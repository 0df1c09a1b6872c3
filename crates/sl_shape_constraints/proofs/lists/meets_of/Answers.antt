use Rattle.std.proofs.Common.{[], ◌<◌, ◌≤◌, length, arith}
use Rattle.std.proofs.Math.Nat.{suc-mul}
use Rattle.sl_cube.specs.Points.{IsIn, IsInSome}
use Rattle.sl_shape_constraints.proofs.SetLemmas.{union_of}
use Rattle.sl_shape_constraints.proofs.LoopLemmas.{first_none, first_more, first_all}
use Rattle.sl_shape_constraints.proofs.lists.meets_of.Goals as goal

pub loop-cube-init : goal.loop-cube-init
loop-cube-init c = rw c.new-met.ensures.items (record {
  points = first_none (λ p x. IsIn p x × IsInSome c.args.right.now p) c.args.left.now [];
  few = omega arith;
})

pub loop-cube-preserved : goal.loop-cube-preserved
loop-cube-preserved c =
    let below : c.loop-cube.cube-index < length c.args.left.now = omega arith in
    record {
      points = first_more (λ p x. IsIn p x × IsInSome c.args.right.now p) c.args.left.now [] c.loop-cube.met.items c.put_meets.new.met.items c.loop-cube.cube-index c.cube-item.result
          below c.cube-item.is c.loop-cube.invariant.points c.in_ok-put_meets.ensures.points;
      few = omega (arith, c.loop-cube.invariant.few, c.in_ok-put_meets.ensures.few, suc-mul c.loop-cube.cube-index (length c.args.right.now));
    }

pub returns-clause-points : goal.returns-clause-points
returns-clause-points c =
    let all : length c.args.left.now ≤ c.loop-cube.cube-index = omega arith in
    union_of c.loop-cube.met.items (λ p. IsInSome c.args.left.now p × IsInSome c.args.right.now p)
    (first_all (λ p x. IsIn p x × IsInSome c.args.right.now p) c.args.left.now [] c.loop-cube.met.items (λ p. IsInSome c.args.left.now p × IsInSome c.args.right.now p) c.loop-cube.cube-index all
    (λ p q. (q.0.0, q.0.1, q.0.2, q.0.3, (q.0.4, q.1))) (λ p x. ((x.0, x.1, x.2, x.3, x.4.0), x.4.1)) c.loop-cube.invariant.points)
