use Rattle.std.proofs.Common.{◌≡◌, ◌∙◌, ap, rules}
use Rattle.std.specs.Int.{cast_signed, cast_unsigned, w64}
use Rattle.std.proofs.lemmas.Int.{to_z-of_z}
use Rattle.sl_asm_bits.proofs.NumberLemmas.{all_bits}
use Rattle.sl_asm_bits.proofs.numbers.exact.Goals as goal

pub returns-clause-only : goal.returns-clause-only
returns-clause-only c =
    let n = c.args.n in
    let same : cast_signed w64 c.cast_unsigned.result ≡ n =
    ap (cast_signed w64) c.cast_unsigned.ensures ∙ to_z-of_z w64 (cast_signed w64 (cast_unsigned w64 n)) (search rules) ∙ to_z-of_z w64 n c.ranges.n in
    λ z h. all_bits c.cast_unsigned.result z c.cast_unsigned.type_inv h.fits h.bits ∙ same
