use Rattle.std.proofs.Common.{◌≤◌, length, arith}
use Rattle.sl_gap_tables.proofs.ChosenLemmas.{marked_all}
use Rattle.sl_gap_tables.proofs.chosen.mark_table.Goals as goal

pub chosen_sets-requires : goal.chosen_sets-requires
chosen_sets-requires c = rw c.deref.ensures.value c.requires.settled

pub returns-clause-marked : goal.returns-clause-marked
returns-clause-marked c =
    let past : length c.args.kept.now.ctors.items ≤ c.places.place = omega arith in
    marked_all c.args.kept.now c.in_ok-chosen.chosen.items c.args.marks.now.items c.places.marks.items c.places.place past c.requires.paired
    (rw c.deref.ensures.value at c.in_ok-chosen.ensures.chosen) (rw c.deref.ensures.value at c.in_ok-chosen.ensures.all) c.places.invariant
