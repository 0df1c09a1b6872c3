use Rattle.std.proofs.Common.{◌≡◌, Some, sym, ap, ◌∙◌}
use Rattle.sl_shape.specs.PatternShapes.{field_shape, token_shape}
use Rattle.sl_shape.proofs.BelowLemmas.{gets_more, gets_same}
use Rattle.sl_shape.proofs.below.Below.field_shape.Goals as goal

pub returns-in_ok-shape-in-Some-clause-shape : goal.returns-in_ok-shape-in-Some-clause-shape
returns-in_ok-shape-in-Some-clause-shape c = λ shapes shows.
    let lists = c.args.lists.now in
    let is : token_shape (Some c.in-Some.token) ≡ field_shape c.args.field.now = ap token_shape (sym c.in-Some.is) ∙ ap field_shape c.field.view_is in
    gets_more c.args.self.now lists (record { all = c.of_token.new.self; bytes = lists.bytes }) shapes (field_shape c.args.field.now) c.in_ok-shape-in-Some.shape
    c.in_ok-shape-in-Some.ensures.keeps c.in_ok-shape-in-Some.ensures.there (c.in_ok-shape-in-Some.ensures.shape ∙ is) shows

pub returns-in-None-clause-shape : goal.returns-in-None-clause-shape
returns-in-None-clause-shape c = λ shapes shows.
    let lists = c.args.lists.now in
    gets_same c.args.self.now lists shapes (field_shape c.args.field.now) c.of_nothing.result (c.of_nothing.ensures.there lists.all)
    (c.of_nothing.ensures.shape lists.all ∙ ap token_shape (sym c.in-None.is) ∙ ap field_shape c.field.view_is) shows
