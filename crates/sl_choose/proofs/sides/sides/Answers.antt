use Rattle.std.proofs.Common.{◌<◌, ◌≤◌, length, arith}
use Rattle.sl_choose.proofs.SideLemmas.{sides_none, sides_more, sides_all}
use Rattle.sl_choose.proofs.sides.sides.Goals as goal

pub loop-entry-init : goal.loop-entry-init
loop-entry-init c = rw (c.new-low.ensures.items, c.new-high.ensures.items) (sides_none c.args.entries.now c.args.bits.now)

pub loop-entry-preserved : goal.loop-entry-preserved
loop-entry-preserved c =
    let below : c.loop-entry.entry-index < length c.args.entries.now = omega arith in
    sides_more c.args.entries.now c.args.bits.now c.loop-entry.low.items c.loop-entry.high.items c.put.new.low.items c.put.new.high.items c.loop-entry.entry-index c.entry-item.result
    below c.entry-item.is c.in_ok-put.ensures c.loop-entry.invariant

pub returns : goal.returns
returns c =
    let all : length c.args.entries.now ≤ c.loop-entry.entry-index = omega arith in
    sides_all c.args.entries.now c.args.bits.now c.loop-entry.low.items c.loop-entry.high.items c.loop-entry.entry-index all c.loop-entry.invariant
