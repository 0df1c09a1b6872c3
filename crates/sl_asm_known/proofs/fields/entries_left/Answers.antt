use Rattle.std.proofs.Common.{◌≤◌, length, arith}
use Rattle.sl_asm_known.proofs.EntryLemmas.{all_left, one_more}
use Rattle.sl_asm_known.proofs.fields.entries_left.Goals as goal

pub entries-preserved : goal.entries-preserved
entries-preserved c =
    one_more c.args.numbers.now c.args.raw.now c.entries.index c.entries.left c.with_entry-left.result c.entry_of-entry.result c.entry_of-entry.ensures
    c.with_entry-left.ensures.kept c.with_entry-left.ensures.here c.entries.invariant

pub returns : goal.returns
returns c =
    let whole : length c.args.numbers.now ≤ c.entries.index = omega arith in
    all_left c.args.numbers.now c.args.raw.now c.entries.index c.entries.left whole c.entries.invariant
