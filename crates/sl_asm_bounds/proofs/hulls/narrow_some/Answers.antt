use Rattle.std.proofs.Common.{◌<◌, ◌≤◌, length, arith, refl}
use Rattle.sl_asm_bounds.proofs.HullLemmas.{keeps_all, keeps_more}
use Rattle.sl_asm_bounds.proofs.hulls.narrow_some.Goals as goal

pub loop-cube-preserved : goal.loop-cube-preserved
loop-cube-preserved c =
    let region = c.args.region.now in
    let cubes = c.args.cubes.now in
    let below : c.loop-cube.cube-index < length cubes = omega arith in record {
      keeps = keeps_more region c.args.at c.args.context cubes c.loop-cube.cube-index (length region) c.cube-item.result _ _ _ below c.cube-item.is refl
          c.in_ok-all.ensures.first c.in_ok-all.ensures.second c.in_ok-one.ensures.keeps c.loop-cube.invariant.keeps;
      long = c.in_ok-all.ensures.long c.loop-cube.invariant.long c.in_ok-one.ensures.long;
    }

pub returns : goal.returns
returns c =
    let cubes = c.args.cubes.now in
    let whole : length cubes ≤ c.loop-cube.cube-index = omega arith in record {
      keeps = keeps_all c.args.region.now c.args.at c.args.context cubes c.loop-cube.cube-index _ whole c.loop-cube.invariant.keeps;
      long = c.loop-cube.invariant.long;
    }
