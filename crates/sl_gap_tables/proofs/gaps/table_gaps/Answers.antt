use Rattle.std.proofs.Common.{◌<◌, ◌≤◌, length, arith}
use Rattle.sl_gap_tables.proofs.GapLemmas.{none_told, one_told, all_told}
use Rattle.sl_gap_tables.proofs.gaps.table_gaps.Goals as goal

pub loop-kept-init : goal.loop-kept-init
loop-kept-init c = rw c.new-told.ensures.items (none_told c.args.tables.now)

pub loop-kept-preserved : goal.loop-kept-preserved
loop-kept-preserved c =
    let below : c.loop-kept.kept-index < length c.args.tables.now = omega arith in
    one_told c.args.tables.now c.loop-kept.told.items c.push.new.self.items c.loop-kept.kept-index c.kept-item.result c.in_ok-found.found below c.kept-item.is
    c.in_ok-found.ensures c.in_ok-push.ensures.items c.loop-kept.invariant

pub returns : goal.returns
returns c =
    let past : length c.args.tables.now ≤ c.loop-kept.kept-index = omega arith in
    let within : c.loop-kept.kept-index ≤ length c.args.tables.now = omega arith in
    all_told c.args.tables.now c.loop-kept.told.items c.loop-kept.kept-index past within c.requires c.loop-kept.invariant
