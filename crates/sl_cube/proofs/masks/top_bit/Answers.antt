use Rattle.sl_cube.proofs.HalfLemmas.{top_from_leading}
use Rattle.std.proofs.Common.{◌<◌, ◌^◌, arith}
use Rattle.sl_cube.proofs.masks.top_bit.Goals as goal

pub returns : goal.returns
returns c =
    let fits : c.args.number < 2 ^ 128 = omega arith in
    top_from_leading c.args.number c.requires fits
