use Rattle.std.proofs.Common.{◌<◌, get_or, length, arith}
use Rattle.std.proofs.lemmas.List.{get_or_default}
use Rattle.sl_choose.proofs.EntryLemmas.{entries_none, entries_more, entries_all}
use Rattle.sl_choose.proofs.entries.entries_of.Goals as goal

pub loop-index-init : goal.loop-index-init
loop-index-init c = rw c.new-entries.ensures.items (entries_none c.args.ctors.now c.args.sets.now)

pub loop-index-preserved : goal.loop-index-preserved
loop-index-preserved c =
    let ctors = c.args.ctors.now in
    let index = c.loop-index.index in
    let within : c.loop-index.index < length c.args.ctors.now = omega arith in
    entries_more ctors c.args.sets.now c.loop-index.entries.items c.put_all.new.entries.items index (get_or c.args.ctors.now c.loop-index.index 0) c.index-sets-index.result
    c.loop-index-test.true within c.index-sets-index.is (get_or_default c.args.ctors.now c.loop-index.index 0 (get_or c.args.ctors.now c.loop-index.index 0) within)
    (rw c.deref.ensures.value at c.in_ok-put_all.ensures) c.loop-index.invariant

pub returns : goal.returns
returns c =
    let all = entries_all c.args.ctors.now c.args.sets.now c.loop-index.entries.items c.loop-index.index c.loop-index-test.false c.loop-index.invariant in
    record { given = all.0; count = all.1 }
