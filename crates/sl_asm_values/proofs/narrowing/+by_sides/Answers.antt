use Rattle.std.proofs.Common.{MatchOption, ap, subst}
use Rattle.sl_asm_values.proofs.GivingLemmas.{own_left}
use Rattle.sl_asm_values.proofs.SideLemmas.{by_both, none_by_left}
use Rattle.sl_asm_values.specs.Narrowing.{GivesNone, KeepsGiving}
use Rattle.sl_decode_plan.specs.Values.{value_in}
use Rattle.sl_decode_plan.specs.declared.values.Value.{Value}
use Rattle.sl_asm_values.proofs.narrowing.+by_sides.Goals as goal

pub returns-in-Plain : goal.returns-in-Plain
returns-in-Plain t c =
    let tables = c.args.t.now in
    own_left tables c.args.frame.now c.args.v.now c.args.wanted.now c.in-Plain.id c.in-Plain.place (λ s. ap (λ (v : Value). value_in tables s v) c.in-Plain.is)
    c.args.region.items c.narrowed_by_own.result c.narrowed_by_own.ensures

pub returns-in_default-narrow : goal.returns-in_default-narrow
returns-in_default-narrow t c =
    let tables = c.args.t.now in
    let frame = c.args.frame.now in
    let region = c.args.region.items in
    let left = c.in-Binary.left.value in
    let one = c.in-Some-sides.one in
    let none = subst (λ o. MatchOption o (GivesNone tables frame region left one) (λ v. KeepsGiving tables frame region left one v.items)) c.in_default-narrow.is
    (rw c.deref-5.ensures at c.in_ok-narrow.ensures) in
    none_by_left tables frame region c.in-Binary.op c.args.v.now left c.in-Binary.right.value c.args.wanted.now c.in-Some.first c.in-Some-known.second one c.in-Some-sides.other
    (λ s. ap (λ (v : Value). value_in tables s v) c.in-Binary.is) (rw (c.deref.ensures.value, c.deref-2.ensures) at c.in-Some.ensures) (rw (c.deref-3.ensures.value, c.deref-4.ensures) at c.in-Some-known.ensures)
    c.in-Some-sides.ensures none

pub returns : goal.returns
returns t c =
    let tables = c.args.t.now in
    let frame = c.args.frame.now in
    let region = c.args.region.items in
    let left = c.in-Binary.left.value in
    let one = c.in-Some-sides.one in
    let keeps = subst (λ o. MatchOption o (GivesNone tables frame region left one) (λ v. KeepsGiving tables frame region left one v.items)) c.in-Some-narrow.is
    (rw c.deref-5.ensures at c.in_ok-narrow.ensures) in
    by_both tables frame region c.in-Binary.op c.args.v.now left c.in-Binary.right.value c.args.wanted.now c.in-Some.first c.in-Some-known.second one c.in-Some-sides.other
    (λ s. ap (λ (v : Value). value_in tables s v) c.in-Binary.is) (rw (c.deref.ensures.value, c.deref-2.ensures) at c.in-Some.ensures) (rw (c.deref-3.ensures.value, c.deref-4.ensures) at c.in-Some-known.ensures)
    c.in-Some-sides.ensures c.in-Some-narrow.cells.items c.in_ok-found.found keeps (rw c.deref-6.ensures at c.in_ok-found.ensures)
