use Rattle.std.proofs.Common.{length, refl}
use Rattle.std.proofs.lemmas.Option.{slice_get_read}
use Rattle.sl_gap_holes.proofs.HoleLemmas.{no_hole, not_all, one_hole}
use Rattle.sl_gap_holes.proofs.holes.least_hole.Goals as goal

pub returns-in_default-found : goal.returns-in_default-found
returns-in_default-found c =
    let kept = c.args.kept.now in
    let found = rw c.deref.ensures.value at c.in-Some.ensures.lookup in
    let at = slice_get_read kept.sets.items (length kept.sets.items) c.args.set c.in-Some.of.now refl found.3.0 found.1 in
    let are = rw c.deref-2.ensures.value at c.in_ok-covers.ensures in
    let least = rw (c.in_default-found.is, c.deref-3.ensures.value, c.deref-4.ensures.value) at c.in_ok-found.ensures in
    no_hole kept c.args.set c.args.operand.now c.args.place c.requires.near c.requires.settled c.in-Some.of.now at c.in_ok-covers.covers.items c.tails_of-tails.result
    are c.tails_of-tails.ensures least

pub returns-in_default-outside : goal.returns-in_default-outside
returns-in_default-outside c =
    let kept = c.args.kept.now in
    let found = rw c.deref.ensures.value at c.in-Some.ensures.lookup in
    let at = slice_get_read kept.sets.items (length kept.sets.items) c.args.set c.in-Some.of.now refl found.3.0 found.1 in
    let are = rw c.deref-2.ensures.value at c.in_ok-covers.ensures in
    let least = rw (c.in-Some-found.is, c.deref-3.ensures.value, c.deref-4.ensures.value) at c.in_ok-found.ensures in
    let none = rw c.in_default-outside.is at c.in_ok-outside.ensures in
    λ parent child hole. not_all kept c.args.set c.args.operand.now c.args.place c.requires.near c.requires.settled c.in-Some.of.now at c.in_ok-covers.covers.items
    c.tails_of-tails.result are c.tails_of-tails.ensures c.in-Some-found.parent c.followers-behind.result c.followers-behind.ensures least none

pub returns : goal.returns
returns c =
    let kept = c.args.kept.now in
    let found = rw c.deref.ensures.value at c.in-Some.ensures.lookup in
    let at = slice_get_read kept.sets.items (length kept.sets.items) c.args.set c.in-Some.of.now refl found.3.0 found.1 in
    let are = rw c.deref-2.ensures.value at c.in_ok-covers.ensures in
    let least = rw (c.in-Some-found.is, c.deref-3.ensures.value, c.deref-4.ensures.value) at c.in_ok-found.ensures in
    let outside = rw c.in-Some-outside.is at c.in_ok-outside.ensures in
    one_hole kept c.args.set c.args.operand.now c.args.place c.requires.near c.requires.settled c.in-Some.of.now at c.in_ok-covers.covers.items c.tails_of-tails.result
    are c.tails_of-tails.ensures c.in-Some-found.parent c.in-Some-outside.child c.followers-behind.result c.followers-behind.ensures least outside
