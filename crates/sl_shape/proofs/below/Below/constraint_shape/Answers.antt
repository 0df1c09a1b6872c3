use Rattle.std.proofs.Common.{Option, None, ap, ◌∙◌, subst}
use Rattle.std.specs.Prelude.{IfOk}
use Rattle.sl_shape.specs.Below.{Gets, Shows}
use Rattle.sl_shape.specs.PatternShapes.{Shapes, shape_by}
use Rattle.sl_shape.proofs.BelowLemmas.{gets_same}
use Rattle.sl_spec.specs.Tables.{Field}
use Rattle.sl_shape.proofs.below.Below.constraint_shape.Goals as goal

pub returns-in-Some-clause-shape : goal.returns-in-Some-clause-shape
returns-in-Some-clause-shape c = subst (λ (o : Option Field). IfOk c.field_shape.result (λ s. (shapes : Shapes) → Shows c.args.self.now c.args.lists.now shapes
    → Gets c.args.self.now shapes c.args.lists.now c.field_shape.new.lists (shape_by shapes o None) s)) (rw c.in-Some.is at c.get.ensures) c.field_shape.ensures.shape

pub returns-in-None-clause-shape : goal.returns-in-None-clause-shape
returns-in-None-clause-shape c = λ shapes shows.
    let lists = c.args.lists.now in
    gets_same c.args.self.now lists shapes _ c.of_nothing.result (c.of_nothing.ensures.there lists.all)
    (c.of_nothing.ensures.shape lists.all ∙ ap (λ (o : Option Field). shape_by shapes o None) c.in-None.ensures) shows
