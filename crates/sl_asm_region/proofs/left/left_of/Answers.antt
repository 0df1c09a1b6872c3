use Rattle.std.proofs.Common.{◌<◌, ◌≤◌, length, arith}
use Rattle.sl_asm_region.proofs.LeftLemmas.{near_first, left_more, left_all}
use Rattle.sl_asm_region.proofs.left.left_of.Goals as goal

pub add_rest-requires : goal.add_rest-requires
add_rest-requires c =
    let below : c.loop-cube.cube-index < length c.args.cubes.now = omega arith in
    near_first c.args.cubes.now c.args.others.now c.loop-cube.cube-index c.cube-item.result below c.cube-item.is

pub loop-cube-preserved : goal.loop-cube-preserved
loop-cube-preserved c =
    let below : c.loop-cube.cube-index < length c.args.cubes.now = omega arith in
    left_more c.args.cubes.now c.args.others.now c.loop-cube.cube-index c.cube-item.result c.loop-cube.out.items c.add_rest.new.out.items below c.cube-item.is
    c.in_ok-add_rest.ensures c.loop-cube.invariant

pub returns : goal.returns
returns c =
    let all : length c.args.cubes.now ≤ c.loop-cube.cube-index = omega arith in
    left_all c.args.cubes.now c.args.others.now c.loop-cube.cube-index c.loop-cube.out.items all c.loop-cube.invariant
