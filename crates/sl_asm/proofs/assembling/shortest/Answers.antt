use Rattle.std.proofs.Common.{◌≤◌, ◌+◌, arith}
use Rattle.sl_asm.proofs.AssembleLemmas.{first_is_shortest, found_none, found_some, none_at_all, none_longer}
use Rattle.sl_asm.specs.Assembling.{HasNone, HasNoneOf, PassesAs, PassesShortest}
use Rattle.sl_asm.proofs.assembling.shortest.Goals as goal

pub loop-shorter-preserved : goal.loop-shorter-preserved
loop-shorter-preserved c =
    let w = c.args.wanted.now in
    let n = c.loop-shorter.shorter in
    none_longer w n
    (found_none (λ v. v.items) c.in_ok-found.found (HasNoneOf w (n + 1)) (PassesAs w (n + 1)) c.if-is_some.ensures c.in_ok-found.ensures) c.loop-shorter.invariant

pub returns-then-is_some : goal.returns-then-is_some
returns-then-is_some c =
    let w = c.args.wanted.now in
    let n = c.loop-shorter.shorter in
    found_some (λ v. v.items) c.in_ok-found.found (HasNoneOf w (n + 1)) (HasNone w) (PassesAs w (n + 1)) (PassesShortest w) c.if-is_some.ensures
    (first_is_shortest w n c.loop-shorter.invariant) c.in_ok-found.ensures

pub returns : goal.returns
returns c =
    let whole : 255 ≤ c.loop-shorter.shorter = omega arith in
    none_at_all c.args.wanted.now c.loop-shorter.shorter whole c.loop-shorter.invariant
