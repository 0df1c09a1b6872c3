use Rattle.std.proofs.Common.{◌≡◌, Option, None, subst}
use Rattle.sl_shape.specs.Extents.{extent, kept}
use Rattle.sl_shape.specs.PatternShapes.{shape_by}
use Rattle.sl_shape.specs.Views.{shapes_of}
use Rattle.sl_spec.specs.Tables.{Field}
use Rattle.sl_shape.proofs.extents.Extents.of_constraint.Goals as goal

pub returns-in-None : goal.returns-in-None
returns-in-None c =
    let self = c.args.self.now in
    subst (λ (o : Option Field). c.of_nothing.result ≡ kept (extent self.tables.now (shape_by (shapes_of self) o None))) c.in-None.ensures (c.of_nothing.ensures self.tables.now)
