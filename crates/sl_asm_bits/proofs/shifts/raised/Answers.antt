use Rattle.std.proofs.Common.{◌*◌, ◌%◌, ◌^◌}
use Rattle.sl_asm_bits.proofs.ShiftLemmas.{raised_has}
use Rattle.sl_asm_bits.proofs.shifts.raised.Goals as goal

pub returns : goal.returns
returns c =
    let k = c.args.k.now in
    λ n f. (c.under.ensures (n * 2 ^ c.args.amount % 2 ^ 64)).0
    (raised_has k.mask k.value n c.args.amount c.ones.result c.ones.ensures c.ones.type_inv f)
