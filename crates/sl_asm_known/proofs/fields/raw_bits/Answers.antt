use Rattle.std.proofs.Common.{◌≡◌, ℕ, suc, ◌-◌, ◌<◌, ◌^◌, ◌∙◌, ap, sym, subst, arith}
use Rattle.sl_asm_bits.specs.Known.{Has}
use Rattle.sl_asm_known.proofs.FieldLemmas.{part_has}
use Rattle.sl_asm_known.proofs.fields.raw_bits.Goals as goal
use Rattle.sl_spec.specs.FieldValues.{bits_of}
use Rattle.sl_spec.specs.Tables.{Field}

pub returns : goal.returns
returns c =
    let of = c.args.of.now in
    let number = c.args.number.now in
    let mask : number.mask < 2 ^ 64 = omega arith in
    let low : c.of.inside.low ≡ of.low = ap (λ (f : Field). f.low) c.of.view_is in
    let wide : c.into.result ≡ suc of.high - c.of.inside.low = c.into.ensures ∙ c.width.ensures.value ∙ ap (λ (l : ℕ). suc of.high - l) (sym low) in
    let is : c.ones-field.result ≡ 2 ^ (suc of.high - c.of.inside.low) - 1 = c.ones-field.ensures ∙ ap (λ (w : ℕ). 2 ^ w - 1) wide in
    λ n f. subst (λ (l : ℕ). Has c.under.result (bits_of l of.high n)) low
    ((c.under.ensures (bits_of c.of.inside.low of.high n)).0
    (part_has number.mask number.value n c.of.inside.low of.high c.ones-field.result mask c.ones-field.type_inv is f))
