use Rattle.sl_shape.proofs.below.HeadsMade.grow_older.Goals as goal

pub returns-else-self-lt-KEPT_FOR-clause-right : goal.returns-else-self-lt-KEPT_FOR-clause-right
returns-else-self-lt-KEPT_FOR-clause-right c = λ b lists head_at right. c.forget.ensures.right b lists head_at right.there
