use Rattle.std.proofs.Common.{ap, ◌∙◌, ◌≡◌, Bool, cond, sym, subst}
use Rattle.std.specs.Str.{bytes_eq}
use Rattle.sl_shape.specs.Extents.{extent, kept}
use Rattle.sl_shape.specs.PatternShapes.{shape_by}
use Rattle.sl_shape.specs.Views.{shapes_of}
use Rattle.sl_shape_tokens.specs.Shapes.{of_nothing}
use Rattle.sl_spec.specs.Named.{index_named, named}
use Rattle.sl_shape.proofs.extents.Extents.of_name.Goals as goal

pub returns-then-eq : goal.returns-then-eq
returns-then-eq c =
    let self = c.args.self.now in
    let t = self.tables.now in
    subst (λ (b : Bool). c.of_nothing.result ≡ kept (extent t (cond b of_nothing
    (shape_by (shapes_of self) (named (λ f. f.name) c.args.name.now t.fields) (index_named (λ b. b.name) c.args.name.now t.tables)))))
    (sym c.if-eq.true ∙ c.eq.ensures ∙ ap (bytes_eq c.args.name.now) c.as_slice.ensures) (c.of_nothing.ensures t)
