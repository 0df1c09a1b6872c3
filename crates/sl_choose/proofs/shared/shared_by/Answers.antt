use Rattle.std.proofs.Common.{◌<◌, ◌≤◌, length, arith}
use Rattle.sl_choose.proofs.SharedLemmas.{shared_more, shared_none, shared_whole}
use Rattle.sl_choose.proofs.shared.shared_by.Goals as goal

pub loop-entry-init : goal.loop-entry-init
loop-entry-init c = shared_none c.args.entries.now c.shared_by_none-shared.result c.shared_by_none-shared.ensures

pub loop-entry-preserved : goal.loop-entry-preserved
loop-entry-preserved c =
    let below : c.loop-entry.entry-index < length c.args.entries.now = omega arith in
    shared_more c.args.entries.now c.loop-entry.shared c.joined-shared.result c.entry-item.result c.loop-entry.entry-index below c.entry-item.is c.joined-shared.ensures
    c.loop-entry.invariant

pub returns : goal.returns
returns c =
    let whole : length c.args.entries.now ≤ c.loop-entry.entry-index = omega arith in
    shared_whole c.args.entries.now c.loop-entry.shared c.loop-entry.entry-index whole c.loop-entry.invariant
