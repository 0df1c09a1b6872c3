use Rattle.std.proofs.Common.{◌<◌, ◌≤◌, length, arith}
use Rattle.sl_cube_sets.proofs.HullLemmas.{hull_begun, hull_step, hull_all}
use Rattle.sl_cube_sets.proofs.hull.hull_of.Goals as goal

pub loop-cube-init : goal.loop-cube-init
loop-cube-init c =
    let some : 0 < length c.args.cubes.now = omega arith in
    hull_begun c.index-cubes-0.result c.hull2-hull.result c.args.cubes.now some c.index-cubes-0.is c.hull2-hull.ensures

pub loop-cube-preserved : goal.loop-cube-preserved
loop-cube-preserved c =
    let below : c.loop-cube.cube-index < length c.args.cubes.now = omega arith in
    hull_step c.cube-item.result c.loop-cube.hull c.hull2-hull-in-loop-cube.result c.args.cubes.now c.loop-cube.cube-index below c.cube-item.is
    c.hull2-hull-in-loop-cube.ensures c.loop-cube.invariant

pub returns : goal.returns
returns c =
    let all : length c.args.cubes.now ≤ c.loop-cube.cube-index = omega arith in
    hull_all c.loop-cube.hull c.loop-cube.hull c.args.cubes.now c.loop-cube.cube-index all c.loop-cube.invariant
