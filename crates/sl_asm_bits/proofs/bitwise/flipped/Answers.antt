use Rattle.std.proofs.Common.{◌<◌, ◌^◌, ◌-◌, arith}
use Rattle.sl_asm_bits.proofs.BitLemmas.{not_has}
use Rattle.sl_asm_bits.proofs.bitwise.flipped.Goals as goal

pub returns : goal.returns
returns c =
    let a = c.args.a.now in
    let mask : a.mask < 2 ^ 64 = omega arith in
    let value : a.value < 2 ^ 64 = omega arith in
    λ n small f. (c.under.ensures (2 ^ 64 - 1 - n)).0 (not_has a.mask a.value n mask value small f)
