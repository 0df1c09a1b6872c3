use Rattle.std.proofs.Common.{bit_and}
use Rattle.std.specs.Int.{cast_unsigned, w64}
use Rattle.sl_asm_bits.proofs.BitLemmas.{and_has}
use Rattle.sl_asm_bits.proofs.NumberLemmas.{and_fits, signed_has, unsigned_fits}
use Rattle.sl_asm_bits.proofs.bitwise.both.Goals as goal

pub returns : goal.returns
returns c =
    let a = c.args.a.now in
    let b = c.args.b.now in
    λ x y f g.
    let m = cast_unsigned w64 x in
    let n = cast_unsigned w64 y in
    signed_has c.under.result (bit_and m n) (and_fits m n (unsigned_fits x f.fits) (unsigned_fits y g.fits))
    ((c.under.ensures (bit_and m n)).0 (and_has a.mask a.value b.mask b.value m n a.within b.within f.bits g.bits))
