use Rattle.std.proofs.Common.{◌<◌, ◌≤◌, length, arith}
use Rattle.sl_cube.specs.Points.{IsIn, IsInSome}
use Rattle.sl_shape_constraints.proofs.LoopLemmas.{first_none, first_more, first_all}
use Rattle.sl_shape_constraints.proofs.lists.put_meets.Goals as goal

pub loop-other-init : goal.loop-other-init
loop-other-init c = record {
  points = first_none (λ p x. IsIn p c.args.cube.now × IsIn p x) c.args.others.now c.args.met.now.items;
  few = omega arith;
}

pub loop-other-preserved : goal.loop-other-preserved
loop-other-preserved c =
    let below : c.loop-other.other-index < length c.args.others.now = omega arith in
    record {
      points = first_more (λ p x. IsIn p c.args.cube.now × IsIn p x) c.args.others.now c.args.met.now.items c.loop-other.met.items c.put_meet.new.met.items c.loop-other.other-index c.other-item.result
          below c.other-item.is c.loop-other.invariant.points c.in_ok-put_meet.ensures.points;
      few = omega (arith, c.loop-other.invariant.few, c.in_ok-put_meet.ensures.few);
    }

pub returns-clause-points : goal.returns-clause-points
returns-clause-points c =
    let all : length c.args.others.now ≤ c.loop-other.other-index = omega arith in
    first_all (λ p x. IsIn p c.args.cube.now × IsIn p x) c.args.others.now c.args.met.now.items c.loop-other.met.items (λ p. IsIn p c.args.cube.now × IsInSome c.args.others.now p) c.loop-other.other-index all
    (λ p q. (q.1.0, q.1.1, q.1.2, q.1.3, (q.0, q.1.4))) (λ p x. (x.4.0, (x.0, x.1, x.2, x.3, x.4.1))) c.loop-other.invariant.points
