use Rattle.std.proofs.Common.{arith, ◌≡◌, ℕ, Option, sym, ap, ◌∙◌, subst}
use Rattle.sl_shape.specs.Extents.{extent, kept}
use Rattle.sl_shape.specs.PatternShapes.{table_shape}
use Rattle.sl_shape.specs.Views.{shapes_of}
use Rattle.sl_shape_tokens.specs.Lists.{seen}
use Rattle.sl_shape_tokens.specs.Shapes.{of_nothing}
use Rattle.sl_shape.proofs.ExtentLemmas.{past_all}
use Rattle.sl_shape.proofs.extents.Extents.of_table.Goals as goal

pub returns-in_default : goal.returns-in_default
returns-in_default c =
    let self = c.args.self.now in
    subst (λ (o : Option ℕ). c.of_nothing.result ≡ kept (extent self.tables.now (table_shape (shapes_of self) o))) (sym c.in_default.is ∙ c.index_of.ensures) (c.of_nothing.ensures self.tables.now)

pub returns-in-None : goal.returns-in-None
returns-in-None c =
    let self = c.args.self.now in
    subst (λ (o : Option ℕ). c.of_nothing-in-None.result ≡ kept (extent self.tables.now (table_shape (shapes_of self) o))) c.in-Some.ensures
    (c.of_nothing-in-None.ensures self.tables.now ∙ ap (λ s. kept (extent self.tables.now s)) (past_all (seen self.lists.now) self.shapes.now c.in-Some.index of_nothing (grind arith)))
