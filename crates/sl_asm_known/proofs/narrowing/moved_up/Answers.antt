use Rattle.std.proofs.Common.{◌≡◌, ℕ, suc, ◌-◌, ◌*◌, ◌%◌, ◌^◌, ◌∙◌, bit_and, ap, subst, sym}
use Rattle.sl_asm_known.proofs.BitsLemmas.{moved_has}
use Rattle.sl_asm_known.proofs.narrowing.moved_up.Goals as goal
use Rattle.sl_cube.specs.Bits.{Agrees}
use Rattle.sl_spec.specs.Tables.{Field}

pub returns-clause-has : goal.returns-clause-has
returns-clause-has c =
    let of = c.args.of.now in
    let bits = c.args.bits.now in
    let low : c.of.inside.low ≡ of.low = ap (λ (f : Field). f.low) c.of.view_is in
    let is : c.ones-field.result ≡ 2 ^ (suc of.high - of.low) - 1 =
    c.ones-field.ensures ∙ ap (λ (w : ℕ). 2 ^ w - 1) (c.into.ensures ∙ c.width.ensures.value) in
    λ n has. (c.under.ensures n).0
    (subst (λ (l : ℕ). Agrees (bit_and bits.mask c.ones-field.result * 2 ^ l % 2 ^ 64) (bit_and bits.value c.ones-field.result * 2 ^ l % 2 ^ 64) n) (sym low)
    (moved_has of.low of.high bits.mask bits.value n c.ones-field.result is has))
