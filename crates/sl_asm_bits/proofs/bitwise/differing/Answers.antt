use Rattle.std.proofs.Common.{bit_xor}
use Rattle.std.specs.Int.{cast_unsigned, w64}
use Rattle.std.proofs.lemmas.Nat.{xor_lt}
use Rattle.sl_asm_bits.proofs.BitLemmas.{xor_has}
use Rattle.sl_asm_bits.proofs.NumberLemmas.{signed_has, unsigned_fits}
use Rattle.sl_asm_bits.proofs.bitwise.differing.Goals as goal

pub returns : goal.returns
returns c =
    let a = c.args.a.now in
    let b = c.args.b.now in
    λ x y f g.
    let m = cast_unsigned w64 x in
    let n = cast_unsigned w64 y in
    signed_has c.under.result (bit_xor m n) (xor_lt 64 m n (unsigned_fits x f.fits) (unsigned_fits y g.fits))
    ((c.under.ensures (bit_xor m n)).0 (xor_has a.mask a.value b.mask b.value m n a.within b.within f.bits g.bits))
