use Rattle.std.proofs.Common.{ℕ, suc, ◌-◌, sym, ap, ◌∙◌, rules, w64}
use Rattle.std.specs.Prelude.{FitsSigned}
use Rattle.std.proofs.lemmas.Int.{to_z-of_z}
use Rattle.sl_spec.specs.FieldValues.{signed_of}
use Rattle.sl_spec.specs.Tables.{Field}
use Rattle.sl_spec.proofs.FieldLemmas.{signed_value, unsigned_value}
use Rattle.sl_spec.proofs.definitions.Field.value_of.Goals as goal

pub returns-then-self : goal.returns-then-self
returns-then-self c =
    let f = c.args.self.now in
    let fits : FitsSigned w64 c.signed.result = search rules in
    let read = c.signed.ensures ∙ ap (λ (w : ℕ). signed_of w c.bits_of-bits.result) c.width.ensures.value ∙ ap (signed_of (suc f.high - f.low)) c.bits_of-bits.ensures.value in
    to_z-of_z w64 c.signed.result fits ∙ signed_value f c.args.number c.signed.result (sym (ap (λ (g : Field). g.signed) c.self.view_is) ∙ c.if-self.true) fits read

pub returns-else-self : goal.returns-else-self
returns-else-self c =
    let f = c.args.self.now in
    let fits : FitsSigned w64 c.cast_signed.result = search rules in
    to_z-of_z w64 c.cast_signed.result fits ∙ c.cast_signed.ensures
    ∙ unsigned_value f c.args.number c.bits_of-bits.result (sym (ap (λ (g : Field). g.signed) c.self.view_is) ∙ c.if-self.false) c.bits_of-bits.type_inv c.bits_of-bits.ensures.value
