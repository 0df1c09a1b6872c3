use Rattle.std.proofs.Common.{get_or, arith, sym, ap, ◌∙◌}
use Rattle.sl_shape.specs.PatternShapes.{table_shape}
use Rattle.sl_shape.proofs.BelowLemmas.{gets_same}
use Rattle.sl_shape.proofs.ExtentLemmas.{past_all}
use Rattle.sl_shape_tokens.specs.Lists.{seen}
use Rattle.sl_shape_tokens.specs.Shapes.{of_nothing}
use Rattle.sl_shape.proofs.below.Below.table_shape.Goals as goal

pub returns-in_default : goal.returns-in_default
returns-in_default c = λ lists shapes shows.
    gets_same c.args.self.now lists shapes _ c.of_nothing.result (c.of_nothing.ensures.there lists.all)
    (c.of_nothing.ensures.shape lists.all ∙ ap (table_shape shapes) (sym c.in_default.is ∙ c.index_of.ensures)) shows

pub returns-in-None : goal.returns-in-None
returns-in-None c = λ lists shapes shows.
    gets_same c.args.self.now lists shapes _ c.of_nothing-in-None.result (c.of_nothing-in-None.ensures.there lists.all)
    (c.of_nothing-in-None.ensures.shape lists.all ∙ past_all (seen lists.all) c.args.self.now.shapes.now c.in-Some.index of_nothing (grind arith)
    ∙ ap (λ s. get_or s c.in-Some.index of_nothing) shows.are ∙ ap (table_shape shapes) (sym c.in-Some.is ∙ c.index_of.ensures)) shows
