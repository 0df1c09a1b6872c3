use Rattle.sl_shape.proofs.BelowLemmas.{either_differ, either_goes}
use Rattle.sl_shape.proofs.below.Below.either_shape.Goals as goal

pub returns-in-Some-clause-shape : goal.returns-in-Some-clause-shape
returns-in-Some-clause-shape c = λ shapes p q shows left right.
    either_goes c.args.self.now shapes c.args.lists.now p q c.args.first c.args.second shows left right c.in-Some.shape
    (rw c.in-Some.is at c.in_ok-shape.ensures.there) (rw c.in-Some.is at c.in_ok-shape.ensures.shape)

pub returns-in-None-clause-fault : goal.returns-in-None-clause-fault
returns-in-None-clause-fault c = λ shapes p q shows left right.
    either_differ c.args.self.now shapes c.args.lists.now p q c.args.first c.args.second shows left right (rw c.in-None.is at c.in_ok-shape.ensures.shape)
