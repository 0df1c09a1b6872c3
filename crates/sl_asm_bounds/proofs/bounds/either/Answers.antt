use Rattle.std.proofs.Common.{Option, subst}
use Rattle.sl_asm_bounds.specs.Bounds.{Holds}
use Rattle.sl_asm_bounds.specs.declared.bounds.Bounds.{Bounds}
use Rattle.sl_asm_bounds.proofs.bounds.either.Goals as goal

pub returns-in_ok-both-in-Some-Some-clause-first : goal.returns-in_ok-both-in-Some-Some-clause-first
returns-in_ok-both-in-Some-Some-clause-first c = λ xs long after counted h.
    c.in_ok-both-in-Some-Some.ensures.first xs long after counted (subst (λ (o : Option Bounds). Holds o xs long after) c.in-Some-Some.is-0 h)

pub returns-in_ok-both-in-Some-Some-clause-second : goal.returns-in_ok-both-in-Some-Some-clause-second
returns-in_ok-both-in-Some-Some-clause-second c = λ xs long after counted h.
    c.in_ok-both-in-Some-Some.ensures.second xs long after counted (subst (λ (o : Option Bounds). Holds o xs long after) c.in-Some-Some.is-1 h)
