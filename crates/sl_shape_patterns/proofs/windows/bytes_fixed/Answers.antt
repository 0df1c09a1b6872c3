use Rattle.std.proofs.Common.{◌<◌, ◌^◌, refl, arith}
use Rattle.sl_shape_patterns.proofs.WindowLemmas.{hull_end}
use Rattle.sl_shape_patterns.proofs.windows.bytes_fixed.Goals as goal

pub returns : goal.returns
returns c =
    let some : 0 < c.args.hull.now.mask = omega (arith, c.if-hull-eq0.false) in
    let fits : c.args.hull.now.mask < 2 ^ 128 = omega arith in
    hull_end c.args.hull.now _ some fits refl
