use Rattle.std.proofs.Common.{◌≡◌, ◌∙◌, ap}
use Rattle.std.specs.Int.{cast_unsigned, w64}
use Rattle.std.proofs.lemmas.Int.{to_z-of_z}
use Rattle.sl_asm_bits.proofs.NumberLemmas.{low_bits_has}
use Rattle.sl_asm_bits.proofs.numbers.low_bits.Goals as goal

pub returns : goal.returns
returns c =
    let n = c.args.n in
    let same : c.cast_unsigned.result ≡ cast_unsigned w64 n = c.cast_unsigned.ensures ∙ ap (cast_unsigned w64) (to_z-of_z w64 n c.ranges.n) in
    λ z fits. low_bits_has c.args.count n z c.under.result c.ones.result c.cast_unsigned.result c.ones.ensures same c.under.ensures fits
