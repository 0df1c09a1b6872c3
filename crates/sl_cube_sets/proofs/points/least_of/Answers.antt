use Rattle.std.proofs.Common.{Some, arith}
use Rattle.sl_cube.specs.Points.{InRange}
use Rattle.sl_cube_sets.proofs.FirstLemmas.{HasPoint, first_begun, first_more, least_point, all_points}
use Rattle.sl_cube_sets.proofs.points.least_of.Goals as goal

pub loop-cube-init : goal.loop-cube-init
loop-cube-init c = first_begun HasPoint c.args.cubes.now

pub loop-cube-preserved : goal.loop-cube-preserved
loop-cube-preserved c =
    let range : InRange c.least.result = (omega arith, omega arith) in
    first_more HasPoint c.args.cubes.now c.loop-cube.cube-index c.cube-item.result c.loop-cube.best (Some c.least.result) c.earlier-best.result
    c.loop-cube-test.true c.cube-item.is c.earlier-best.ensures (least_point c.cube-item.result c.least.result range c.least.ensures) c.loop-cube.invariant

pub returns : goal.returns
returns c = all_points c.args.cubes.now c.loop-cube.cube-index c.loop-cube.best c.loop-cube-test.false c.loop-cube.invariant
