use Rattle.std.proofs.Common.{◌<◌, length, arith}
use Rattle.sl_asm_region.proofs.LeftLemmas.{one_contains}
use Rattle.sl_asm_region.proofs.left.is_in_one.Goals as goal

pub returns-then-contains : goal.returns-then-contains
returns-then-contains c = λ t.
    let below : c.loop-cube.cube-index < length c.args.cubes.now = omega arith in
    one_contains c.args.cubes.now c.loop-cube.cube-index c.cube-item.result c.args.region.now below c.cube-item.is (c.contains.ensures.0 c.if-contains.true)
