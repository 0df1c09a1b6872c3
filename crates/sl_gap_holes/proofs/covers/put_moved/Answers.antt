use Rattle.std.proofs.Common.{◌<◌, ◌≤◌, length, arith}
use Rattle.sl_gap_holes.proofs.CoverLemmas.{HasNext, Pair, moved_put, put_more}
use Rattle.sl_gap_holes.specs.Covered.{tail_of}
use Rattle.sl_gap_holes.proofs.covers.put_moved.Goals as goal

pub loop-cube-preserved : goal.loop-cube-preserved
loop-cube-preserved c =
    let below : c.loop-cube.cube-index < length c.args.cubes.now = omega arith in
    let place = c.args.place in
    put_more (Pair place) (λ x. x.p) (λ x. tail_of place x.q) (HasNext place) c.args.cubes.now c.args.covers.now.items c.loop-cube.covers.items c.push.new.self.items
    c.loop-cube.cube-index c.cube-item.result c.moved.result below c.cube-item.is (λ x. c.moved.ensures x.p x.q x.p_range x.q_range x.follows) c.in_ok-push.ensures.items
    c.loop-cube.invariant

pub returns : goal.returns
returns c =
    let all : length c.args.cubes.now ≤ c.loop-cube.cube-index = omega arith in
    moved_put c.args.place c.args.cubes.now c.args.covers.now.items c.loop-cube.covers.items c.loop-cube.cube-index all c.loop-cube.invariant
