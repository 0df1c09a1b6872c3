use Rattle.std.proofs.Common.{refl}
use Rattle.sl_cube.proofs.BitLemmas.{join_within, shared_from_common}
use Rattle.sl_asm_fit.proofs.RegionLemmas.{meet_made}
use Rattle.sl_asm_fit.proofs.cells.meet.Goals as goal

pub returns-then-a-shared : goal.returns-then-a-shared
returns-then-a-shared c =
    let a = c.args.a.now in
    let b = c.args.b.now in
    λ x in_a in_b. c.if-a-shared.true (shared_from_common _ _ _ _ x a.within b.within in_a in_b)

pub invariant_of-result : goal.invariant_of-result
invariant_of-result c =
    let a = c.args.a.now in
    let b = c.args.b.now in
    record { within = join_within a.mask a.value b.mask b.value a.within b.within }

pub returns : goal.returns
returns c =
    let a = c.args.a.now in
    let b = c.args.b.now in
    meet_made a b _ refl refl c.if-a-shared.false
