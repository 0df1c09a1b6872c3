use Rattle.std.proofs.Common.{◌<◌, length, arith}
use Rattle.sl_cube_sets.proofs.LeftLemmas.{fills_from}
use Rattle.sl_cube_marks.proofs.narrowing.fills.Goals as goal

pub returns-then-contains : goal.returns-then-contains
returns-then-contains c = λ t.
    let below : c.loop-cube.cube-index < length c.args.cubes.now = omega arith in
    fills_from c.args.region.now c.args.cubes.now c.loop-cube.cube-index c.cube-item.result below c.cube-item.is (c.contains.ensures.0 c.if-contains.true)
