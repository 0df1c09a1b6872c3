use Rattle.std.proofs.Common.{Some, None}
use Rattle.sl_choose.proofs.chooser.Chooser.pick.Goals as goal

pub returns-in_err-first-clause-choice : goal.returns-in_err-first-clause-choice
returns-in_err-first-clause-choice c = λ ctors sets stands same settled.
    rw c.from_residual.ensures (c.leaf-leaf.ensures.first ctors sets stands same settled None c.in_err-first.ensures.first)

pub returns-clause-choice : goal.returns-clause-choice
returns-clause-choice c = λ ctors sets stands same settled. c.leaf-leaf.ensures.first ctors sets stands same settled (Some c.in_ok-first.first) c.in_ok-first.ensures.first
