use Rattle.std.proofs.Common.{◌<◌, ◌+◌, ◌%◌, ◌^◌, ◌-◌, bit_or, arith}
use Rattle.sl_asm_bits.proofs.SumLemmas.{sum_has, wrapped_twice}
use Rattle.sl_asm_bits.proofs.sums.sum.Goals as goal

pub returns : goal.returns
returns c =
    let a = c.args.a.now in
    let b = c.args.b.now in
    let am : a.mask < 2 ^ 64 = omega arith in
    let bm : b.mask < 2 ^ 64 = omega arith in
    λ m n small below f g. (c.under.ensures ((m + n + c.args.carry) % 2 ^ 64)).0
    (sum_has a.mask a.value b.mask b.value m n c.args.carry a.within b.within am bm small below c.requires f g _ _
    (wrapped_twice a.value b.value c.args.carry)
    (wrapped_twice (bit_or a.value (2 ^ 64 - 1 - a.mask)) (bit_or b.value (2 ^ 64 - 1 - b.mask)) c.args.carry))
