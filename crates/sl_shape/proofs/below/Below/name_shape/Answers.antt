use Rattle.std.proofs.Common.{◌≡◌, Bool, true, false, cond, Option, sym, ap, ◌∙◌, subst}
use Rattle.std.specs.Prelude.{IfOk}
use Rattle.std.specs.Str.{bytes_eq}
use Rattle.sl_spec_constructors.specs.Operands.{is_epsilon}
use Rattle.sl_shape.specs.Below.{Gets, Shows}
use Rattle.sl_shape.specs.PatternShapes.{Shapes, shape_by}
use Rattle.sl_shape.proofs.BelowLemmas.{gets_same}
use Rattle.sl_shape_tokens.specs.Shapes.{of_nothing}
use Rattle.sl_spec.specs.Named.{index_named, named}
use Rattle.sl_spec.specs.Tables.{Field}
use Rattle.sl_shape.proofs.below.Below.name_shape.Goals as goal

pub returns-then-eq-clause-shape : goal.returns-then-eq-clause-shape
returns-then-eq-clause-shape c = λ shapes shows.
    let lists = c.args.lists.now in
    let t = c.args.self.now.tables.now in
    let is : true ≡ is_epsilon c.args.name.now = sym c.if-eq.true ∙ c.eq.ensures ∙ ap (bytes_eq c.args.name.now) c.as_slice.ensures in
    gets_same c.args.self.now lists shapes _ c.of_nothing.result (c.of_nothing.ensures.there lists.all)
    (c.of_nothing.ensures.shape lists.all ∙ ap (λ (b : Bool). cond b of_nothing (shape_by shapes (named (λ f. f.name) c.args.name.now t.fields)
    (index_named (λ b. b.name) c.args.name.now t.tables))) is) shows

pub returns-in-Some-clause-shape : goal.returns-in-Some-clause-shape
returns-in-Some-clause-shape c =
    let t = c.args.self.now.tables.now in
    let is : false ≡ is_epsilon c.args.name.now = sym c.if-eq.false ∙ c.eq.ensures ∙ ap (bytes_eq c.args.name.now) c.as_slice.ensures in
    subst (λ (b : Bool). IfOk c.field_shape.result (λ s. (shapes : Shapes) → Shows c.args.self.now c.args.lists.now shapes
    → Gets c.args.self.now shapes c.args.lists.now c.field_shape.new.lists (cond b of_nothing (shape_by shapes (named (λ f. f.name) c.args.name.now t.fields)
    (index_named (λ b. b.name) c.args.name.now t.tables))) s)) is
    (subst (λ (o : Option Field). IfOk c.field_shape.result (λ s. (shapes : Shapes) → Shows c.args.self.now c.args.lists.now shapes
    → Gets c.args.self.now shapes c.args.lists.now c.field_shape.new.lists (shape_by shapes o (index_named (λ b. b.name) c.args.name.now t.tables)) s))
    (rw c.in-Some.is at c.get.ensures) c.field_shape.ensures.shape)
