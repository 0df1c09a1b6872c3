use Rattle.std.proofs.Common.{◌≡◌, ℕ, suc, ◌-◌, ◌*◌, ◌%◌, ◌^◌, ◌≤◌, ap, subst, sym, ◌∙◌, arith, w64}
use Rattle.std.specs.Int.{cast_unsigned}
use Rattle.std.proofs.lemmas.Int.{to_z-of_z}
use Rattle.sl_asm_bits.specs.Known.{HasBits}
use Rattle.sl_asm_known.proofs.FieldLemmas.{own_known}
use Rattle.sl_asm_print.proofs.FieldLemmas.{value_again}
use Rattle.sl_spec.specs.FieldValues.{value_of}
use Rattle.sl_asm_print.proofs.fields.bits_of_value.Goals as goal

pub returns-then-value_of_code-value : goal.returns-then-value_of_code-value
returns-then-value_of_code-value c =
    let f = c.args.of.now in
    let some : 1 ≤ suc f.high - f.low = omega (arith, c.value_of_code.ensures.order) in
    let few : suc f.high - f.low ≤ 64 = omega (arith, c.value_of_code.ensures.most) in
    λ n is. own_known f n some few c.exact.result
    (subst (HasBits c.exact.result) (to_z-of_z w64 c.args.value c.ranges.value ∙ sym is) c.exact.ensures.has)

pub returns-else-value_of_code-value : goal.returns-else-value_of_code-value
returns-else-value_of_code-value c =
    let f = c.args.of.now in
    let ends = c.value_of_code.ensures in
    let bits : c.cast_unsigned.result ≡ cast_unsigned w64 c.args.value =
    c.cast_unsigned.ensures ∙ ap (cast_unsigned w64) (to_z-of_z w64 c.args.value c.ranges.value) in
    λ n is. c.if-value_of_code-value.false
    (ap (cast_unsigned w64) (ends.value ∙ ap (λ (m : ℕ). value_of f (m * 2 ^ f.low % 2 ^ 64)) bits ∙ value_again f n c.args.value ends.order ends.most is))
