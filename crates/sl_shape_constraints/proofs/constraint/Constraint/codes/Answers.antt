use Rattle.std.specs.Prelude.{ℤ, FitsSigned}
use Rattle.std.proofs.lemmas.Int.{to_z-of_z}
use Rattle.std.proofs.Common.{rules, w64, ◌↔◌, ◌≡◌, ◌<◌, ◌≤◌, ◌^◌, ℕ, Bool, sym, ap, subst, ◌∙◌, arith}
use Rattle.sl_shape_blocks.specs.Blocks.{Satisfies}
use Rattle.sl_shape_blocks.specs.Compare.{IsValue}
use Rattle.sl_shape_blocks.specs.Relations.{Stands}
use Rattle.sl_spec.specs.FieldValues.{read_as, wrapped}
use Rattle.sl_spec.specs.Tables.{Field}
use Rattle.sl_shape_constraints.specs.Codes.{reads_signed}
use Rattle.sl_shape_constraints.specs.Values.{width}
use Rattle.sl_shape_constraints.proofs.ValueLemmas.{is_value}
use Rattle.sl_shape_constraints.proofs.constraint.Constraint.codes.Goals as goal

pub returns : goal.returns
returns c = λ n less.
    let f = c.args.self.now.field.now in
    let size = c.width-width.result in
    let is : size ≡ width f = c.width-width.ensures.value in
    let value = wrapped (read_as f.signed (width f) n) in
    let some : 1 ≤ width f = omega (arith, c.width-width.ensures.some, is) in
    let most : width f ≤ 64 = omega (arith, c.width-width.ensures.most, is) in
    let signed : c.reads_signed-is_signed.result ≡ reads_signed f.signed (width f) =
    c.reads_signed-is_signed.ensures ∙ ap (λ (g : Field). reads_signed g.signed size) c.field.view_is ∙ ap (reads_signed f.signed) is in
    let fits : FitsSigned w64 c.args.self.now.number = search rules in
    subst (λ (k : ℤ). Satisfies c.codes_of.result n ↔ Stands c.args.self.now.relation value k) (to_z-of_z w64 c.args.self.now.number fits)
    (c.codes_of.ensures n value (subst (λ (k : ℕ). n < 2 ^ k) (sym is) less)
    (subst (λ (b : Bool). IsValue b size n value) (sym signed)
    (subst (λ (k : ℕ). IsValue (reads_signed f.signed (width f)) k n value) (sym is) (is_value (width f) n some most less f.signed))))
