use Rattle.std.proofs.Common.{◌<◌, ◌^◌, arith, eq-eqb}
use borrow.Author.Tests.{eqb-true}
use Rattle.sl_asm_bits.proofs.NumberLemmas.{implied, mask_implied, value_implied}
use Rattle.sl_asm_bits.proofs.numbers.implies.Goals as goal

pub returns-then-a-b : goal.returns-then-a-b
returns-then-a-b c =
    let a = c.args.a.now in
    let b = c.args.b.now in
    let value : a.value < 2 ^ 64 = omega arith in
    let mask : b.mask < 2 ^ 64 = omega arith in (
      λ t. implied a b c.if-a-b.true (eqb-true _ _ t),
      λ all. eq-eqb _ _ (mask_implied a b value mask all),
    )

pub returns-else-a-b : goal.returns-else-a-b
returns-else-a-b c =
    let a = c.args.a.now in
    let b = c.args.b.now in
    let value : a.value < 2 ^ 64 = omega arith in
    let mask : b.mask < 2 ^ 64 = omega arith in (
      λ t. absurd (c.if-a-b.false (eqb-true _ _ t)),
      λ all. absurd (c.if-a-b.false (value_implied a b value mask all)),
    )
