use Rattle.std.proofs.Common.{◌+◌, ◌^◌, ◌≤◌, arith}
use Rattle.std.proofs.Math.Pow.{pow_mono}
use Rattle.sl_build_emit.proofs.masks.mask.Goals as goal

pub overflow_sub-result : goal.overflow_sub-result
overflow_sub-result c =
    let low = c.args.span.low in
    let more : 2 ^ low ≤ 2 ^ (c.from.result + low) = pow_mono (omega arith) in
    omega (arith, more, c.ones.ensures, c.ones-2.ensures)
