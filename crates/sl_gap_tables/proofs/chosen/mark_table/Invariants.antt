use Rattle.sl_gap_tables.proofs.ChosenLemmas.{MarkedFirst}
use Rattle.sl_gap_tables.proofs.chosen.mark_table.Given as goal

abbrev pub invariant-places : goal.invariant-places
invariant-places l = MarkedFirst l.kept.ctors.items l.chosen.items l.fn.marks.items l.marks.items l.place
