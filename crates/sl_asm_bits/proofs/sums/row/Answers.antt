use Rattle.std.proofs.Common.{◌*◌}
use Rattle.std.specs.Int.{bit_at}
use Rattle.std.proofs.lemmas.Nat.Bits.{bit_at-lt}
use Rattle.sl_asm_bits.proofs.SumLemmas.{maybe_has, row_one, row_zero}
use Rattle.sl_asm_bits.proofs.sums.row.Goals as goal

pub returns-then-k-bit-ne0 : goal.returns-then-k-bit-ne0
returns-then-k-bit-ne0 c =
    let k = c.args.k.now in
    λ m n f g. row_one k.mask k.value m n c.args.index c.args.taken.now k.within c.requires c.if-k-bit-ne0.true f g

pub returns-then-k-bit-ne0-2 : goal.returns-then-k-bit-ne0-2
returns-then-k-bit-ne0-2 c =
    let k = c.args.k.now in
    λ m n f g. row_zero k.mask k.value m n c.args.index c.exact_bits.result c.requires c.if-k-bit-ne0.false c.if-k-bit-ne0-2.true c.exact_bits.ensures f

pub returns : goal.returns
returns c =
    let taken = c.args.taken.now in
    λ m n f g. (c.under.ensures (bit_at m c.args.index * n)).0
    (maybe_has taken.mask taken.value n (bit_at m c.args.index) taken.within (bit_at-lt m c.args.index) g)
