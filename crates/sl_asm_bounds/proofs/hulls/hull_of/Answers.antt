use Rattle.sl_asm_bounds.proofs.BoundLemmas.{self_below}
use Rattle.sl_asm_bounds.proofs.HullLemmas.{hull_first, hull_second}
use Rattle.sl_cube.proofs.BitLemmas.{and_or_absorb}
use Rattle.sl_asm_bounds.proofs.hulls.hull_of.Goals as goal

pub invariant_of-result : goal.invariant_of-result
invariant_of-result c = record { within = and_or_absorb _ _ }

pub returns-clause-first : goal.returns-clause-first
returns-clause-first c =
    let a = c.args.a.now in
    let b = c.args.b.now in
    λ x has. hull_first a.mask a.value b.mask b.value x a.within b.within (self_below x) has

pub returns-clause-second : goal.returns-clause-second
returns-clause-second c =
    let a = c.args.a.now in
    let b = c.args.b.now in
    λ x has. hull_second a.mask a.value b.mask b.value x a.within b.within (self_below x) has
