use Rattle.sl_cube_sets.proofs.FirstLemmas.{first_begun, first_more}
use Rattle.sl_cube_tails.proofs.SearchLemmas.{HasUncovered, all_cubes, least_of_cube}
use Rattle.sl_cube_tails.proofs.least.least_uncovered.Goals as goal

pub loop-cube-init : goal.loop-cube-init
loop-cube-init c = first_begun (HasUncovered c.args.tails.now c.args.covers.now) c.args.cubes.now

pub loop-cube-preserved : goal.loop-cube-preserved
loop-cube-preserved c =
    first_more (HasUncovered c.args.tails.now c.args.covers.now) c.args.cubes.now c.loop-cube.cube-index c.cube-item.result c.loop-cube.best c.in_ok-found.found
    c.earlier-best.result c.loop-cube-test.true c.cube-item.is c.earlier-best.ensures
    (least_of_cube c.cube-item.result c.args.tails.now c.args.covers.now c.in_ok-found.found c.in_ok-found.ensures) c.loop-cube.invariant

pub returns : goal.returns
returns c = all_cubes c.args.cubes.now c.args.tails.now c.args.covers.now c.loop-cube.cube-index c.loop-cube.best c.loop-cube-test.false c.loop-cube.invariant
