use Rattle.std.proofs.Common.{ℕ, ◌<◌, length, arith, refl, ap, ◌∙◌, sym}
use Rattle.std.specs.Int.{bit_at}
use borrow.Author.Tests.{eqb-true}
use Rattle.std.proofs.lemmas.Option.{slice_get_read}
use Rattle.sl_asm_bits.proofs.SumLemmas.{clear_bit}
use Rattle.sl_asm_known.proofs.order.is_open.Goals as goal

pub returns-then-index-region : goal.returns-then-index-region
returns-then-index-region c =
    let region = c.args.region.now in
    let bit = c.args.bit.now in
    let below : bit.index < length region = omega arith in
    let low : bit.place < 64 = omega (arith, c.requires) in
    λ t. record {
      cell = c.index-region-index.result;
      there = slice_get_read region (length region) bit.index c.index-region-index.result refl below c.index-region-index.is;
      low = c.requires;
      is_open = ap (λ (m : ℕ). bit_at m bit.place) (sym c.from.ensures) ∙ clear_bit c.from.result bit.place low (eqb-true _ _ t);
    }
