use Rattle.std.proofs.Common.{◌≡◌, Some, sym, ap, ◌∙◌, rules, w64}
use Rattle.std.specs.Prelude.{FitsSigned, slice_get}
use Rattle.std.proofs.lemmas.Int.{to_z-of_z}
use Rattle.sl_spec.specs.FieldValues.{field_value, value_of}
use Rattle.sl_spec.proofs.fields.field_value.Goals as goal

pub returns : goal.returns
unfolding field_value
returns c =
    let t = c.args.t.now in
    let of : slice_get t.fields c.args.field ≡ Some c.member-of.result.now = ap (slice_get t.fields) (sym c.number.ensures) ∙ c.member-of.ensures in
    let fits : FitsSigned w64 c.value_of.result = search rules in
    rw of (to_z-of_z w64 c.value_of.result fits ∙ c.value_of.ensures ∙ ap (value_of c.member-of.result.now) c.number_in.ensures)
