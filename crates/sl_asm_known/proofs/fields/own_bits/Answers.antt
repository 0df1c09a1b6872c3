use Rattle.std.proofs.Common.{◌≡◌, ℕ, suc, ◌+◌, ◌-◌, ◌*◌, ◌%◌, ◌≤◌, ◌<◌, ◌^◌, ◌∙◌, true, false, ap, sym, arith}
use Rattle.std.specs.Int.{cast_signed, w64}
use Rattle.sl_asm_bits.proofs.NumberLemmas.{signed_has}
use Rattle.sl_asm_known.proofs.FieldLemmas.{signed_field, unsigned_has}
use Rattle.sl_asm_known.proofs.fields.own_bits.Goals as goal
use Rattle.sl_spec.specs.FieldValues.{bits_of}
use Rattle.sl_spec.specs.Tables.{Field}

pub returns-then-of : goal.returns-then-of
returns-then-of c =
    let of = c.args.of.now in
    let signed : of.signed ≡ true = sym (ap (λ (f : Field). f.signed) c.of.view_is) ∙ c.if-of.true in
    let up = 64 - c.from-above.result in
    let some : 1 ≤ suc of.high - of.low = omega (arith, c.width.ensures.value, c.width.ensures.some) in
    let whole : suc of.high - of.low + up ≡ 64 = omega (arith, c.width.ensures.value, c.width.ensures.most, c.from-above.ensures) in
    λ n f.
    let r : ℕ = bits_of of.low of.high n in
    let small : r * 2 ^ up % 2 ^ 64 < 2 ^ 64 = omega arith in
    signed_field of n up c.lowered.result signed some whole
    (c.lowered.ensures (cast_signed w64 (r * 2 ^ up % 2 ^ 64)) (signed_has c.raised.result (r * 2 ^ up % 2 ^ 64) small (c.raised.ensures r (c.raw_bits-raw.ensures n f))))

pub returns-else-of : goal.returns-else-of
returns-else-of c =
    let of = c.args.of.now in
    let plain : of.signed ≡ false = sym (ap (λ (f : Field). f.signed) c.of.view_is) ∙ c.if-of.false in
    let low : c.of.inside.low ≡ of.low = ap (λ (f : Field). f.low) c.of.view_is in
    let high : c.of.inside.high ≡ of.high = ap (λ (f : Field). f.high) c.of.view_is in
    let most : suc of.high - of.low ≤ 64 = omega (arith, high, c.of.invariant.1) in
    λ n f. unsigned_has of n c.raw_bits-raw.result plain most (c.raw_bits-raw.ensures n f)
