use Rattle.std.proofs.Common.{◌<◌, ◌≤◌, length, arith}
use Rattle.sl_gap_holes.proofs.CoverLemmas.{AnyTail, HasHead, all_put, put_more}
use Rattle.sl_gap_holes.proofs.covers.put_all.Goals as goal

pub loop-cube-preserved : goal.loop-cube-preserved
loop-cube-preserved c =
    let below : c.loop-cube.cube-index < length c.args.cubes.now = omega arith in
    put_more AnyTail (λ x. x.0) (λ x. x.1) HasHead c.args.cubes.now c.args.covers.now.items c.loop-cube.covers.items c.push.new.self.items c.loop-cube.cube-index
    c.cube-item.result c.with_all.result below c.cube-item.is (λ x. c.with_all.ensures x.0 x.1) c.in_ok-push.ensures.items c.loop-cube.invariant

pub returns : goal.returns
returns c =
    let all : length c.args.cubes.now ≤ c.loop-cube.cube-index = omega arith in
    all_put c.args.cubes.now c.args.covers.now.items c.loop-cube.covers.items c.loop-cube.cube-index all c.loop-cube.invariant
