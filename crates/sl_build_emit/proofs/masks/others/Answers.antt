use Rattle.std.proofs.Common.{arith}
use Rattle.sl_faithful_code.proofs.Masks.{mask_below}
use Rattle.sl_build_emit.proofs.masks.others.Goals as goal

pub overflow_sub-greatest : goal.overflow_sub-greatest
overflow_sub-greatest c =
    let less = mask_below c.args.n.bytes c.args.span.low c.args.span.count c.requires.inside in
    omega (arith, less, c.mask.ensures, c.greatest.ensures)
