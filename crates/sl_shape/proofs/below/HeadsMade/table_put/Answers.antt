use Rattle.std.proofs.Common.{sym, ◌∙◌}
use Rattle.sl_shape.proofs.KeptLemmas.{right_put}
use Rattle.sl_shape.proofs.below.HeadsMade.table_put.Goals as goal

pub returns-then-is_marked : goal.returns-then-is_marked
returns-then-is_marked c = λ b next lists head_at same right. c.forget.ensures.right next lists head_at same.there

pub returns-else-is_marked : goal.returns-else-is_marked
returns-else-is_marked c = λ b next lists head_at same right.
    right_put b next lists c.args.table same head_at c.args.self.now (sym c.is_marked.ensures ∙ c.if-is_marked.false) right
