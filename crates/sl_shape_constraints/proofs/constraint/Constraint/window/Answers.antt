use Rattle.std.proofs.Common.{◌<◌, ◌^◌, ℕ, sym, subst, ◌∙◌}
use Rattle.std.proofs.lemmas.Bool.{false≢true}
use Rattle.sl_shape_constraints.specs.Views.{constraint_of}
use Rattle.sl_shape_constraints.proofs.WindowLemmas.{constrains_end}
use Rattle.sl_shape_constraints.proofs.constraint.Constraint.window.Goals as goal

pub returns : goal.returns
returns c =
    constrains_end (constraint_of c.args.self.now) c.bits.result c.bits.ensures c.bytes_with.result
    (λ all. false≢true (sym c.if-are_all.false ∙ c.are_all.ensures.1 (λ n lt.
    let less = subst (λ (k : ℕ). n < 2 ^ k) c.width.ensures.value lt in
    (c.codes.ensures n less).1 (all n less)))) c.bytes_with.ensures
