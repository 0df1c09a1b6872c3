use Rattle.std.proofs.Common.{◌≡◌, ℕ, Option, sym, subst}
use Rattle.sl_shape.specs.Extents.{extent, kept}
use Rattle.sl_shape.specs.PatternShapes.{field_shape, token_shape}
use Rattle.sl_spec.specs.Tables.{Field}
use Rattle.sl_shape.proofs.lengths.field_extent.Goals as goal

pub returns-in-None : goal.returns-in-None
returns-in-None c =
    subst (λ (f : Field). c.of_nothing.result ≡ kept (extent c.args.t.now (field_shape f))) c.field.view_is
    (subst (λ (o : Option ℕ). c.of_nothing.result ≡ kept (extent c.args.t.now (token_shape o))) (sym c.in-None.is) (c.of_nothing.ensures c.args.t.now))
