use Rattle.std.proofs.Common.{Some, ◌∙◌}
use Rattle.sl_shape_tokens.specs.Comparing.{compared}
use Rattle.sl_shape_tokens.specs.Lists.{list_at}
use Rattle.sl_shape_tokens.proofs.WalkLemmas.{second_shorter}
use Rattle.sl_shape_tokens.proofs.lists.Lists.compare.Goals as goal

pub returns-in-None-right : goal.returns-in-None-right
returns-in-None-right c =
    second_shorter (list_at c.args.self.now (Some c.in-Some.one)) c.in-Some.ensures.full ∙ (λ k. compared (c.in-Some.ensures.same k) (c.in-None-right.ensures.same k))
