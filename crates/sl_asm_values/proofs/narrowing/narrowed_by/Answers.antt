use Rattle.std.proofs.Common.{MatchOption, subst}
use Rattle.sl_asm_values.proofs.GivingLemmas.{found_more}
use Rattle.sl_asm_values.specs.Narrowing.{GivesNone, KeepsGiving}
use Rattle.sl_asm_values.proofs.narrowing.narrowed_by.Goals as goal

pub returns-in_default : goal.returns-in_default
returns-in_default c =
    let t = c.args.t.now in
    let f = c.args.frame.now in
    let region = c.args.region.now in
    let v = c.args.v.now in
    let wanted = c.args.wanted.now in
    subst (λ o. MatchOption o (GivesNone t f region v wanted) (λ n. KeepsGiving t f region v wanted n.items)) c.in_default.is (rw c.in_ok-whole.ensures at c.in_ok-narrow.ensures)

pub returns : goal.returns
returns c =
    let t = c.args.t.now in
    let f = c.args.frame.now in
    let region = c.args.region.now in
    let v = c.args.v.now in
    let wanted = c.args.wanted.now in
    let keeps = subst (λ o. MatchOption o (GivesNone t f region v wanted) (λ n. KeepsGiving t f region v wanted n.items)) c.in-Some.is
    (rw c.in_ok-whole.ensures at c.in_ok-narrow.ensures) in
    found_more t f v wanted region c.in-Some.cells.items c.in_ok-found.found keeps c.in_ok-found.ensures
