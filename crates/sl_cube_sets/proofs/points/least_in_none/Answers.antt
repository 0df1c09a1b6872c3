use Rattle.sl_cube_sets.proofs.FirstLemmas.{HasOutside, first_begun, first_more, least_found, all_outside}
use Rattle.sl_cube_sets.proofs.points.least_in_none.Goals as goal

pub loop-cube-init : goal.loop-cube-init
loop-cube-init c = first_begun (HasOutside c.args.others.now) c.args.cubes.now

pub loop-cube-preserved : goal.loop-cube-preserved
loop-cube-preserved c =
    first_more (HasOutside c.args.others.now) c.args.cubes.now c.loop-cube.cube-index c.cube-item.result c.loop-cube.best c.in_ok-found.found c.earlier-best.result
    c.loop-cube-test.true c.cube-item.is c.earlier-best.ensures (least_found c.args.others.now c.cube-item.result c.in_ok-found.found c.in_ok-found.ensures) c.loop-cube.invariant

pub returns : goal.returns
returns c = all_outside c.args.cubes.now c.args.others.now c.loop-cube.cube-index c.loop-cube.best c.loop-cube-test.false c.loop-cube.invariant
