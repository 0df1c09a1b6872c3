use Rattle.std.proofs.Common.{◌<◌, ◌≤◌, length, arith}
use Rattle.sl_gap_tables.proofs.ChosenLemmas.{settled_at, tables_all, tables_more}
use Rattle.sl_gap_tables.proofs.chosen.chosen_constructors.Goals as goal

pub mark_table-requires-clause-settled : goal.mark_table-requires-clause-settled
mark_table-requires-clause-settled c =
    let below : c.loop-kept.kept-index < length c.args.tables.now = omega arith in
    settled_at c.args.tables.now c.requires.settled c.loop-kept.kept-index c.kept-item.result below c.kept-item.is

pub loop-kept-preserved : goal.loop-kept-preserved
loop-kept-preserved c =
    let below : c.loop-kept.kept-index < length c.args.tables.now = omega arith in
    tables_more c.args.tables.now c.loop-kept.marks.items c.mark_table.new.marks.items c.args.count c.loop-kept.kept-index c.kept-item.result below c.kept-item.is
    c.in_ok-mark_table.ensures.counted c.in_ok-mark_table.ensures.marked c.loop-kept.invariant

pub returns : goal.returns
returns c =
    let past : length c.args.tables.now ≤ c.loop-kept.kept-index = omega arith in
    tables_all c.args.tables.now c.loop-kept.marks.items c.args.count c.loop-kept.kept-index past c.requires.paired c.loop-kept.invariant
