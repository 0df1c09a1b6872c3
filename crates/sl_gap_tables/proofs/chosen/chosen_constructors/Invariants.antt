use Rattle.sl_gap_tables.proofs.ChosenLemmas.{TablesFirst}
use Rattle.sl_gap_tables.proofs.chosen.chosen_constructors.Given as goal

abbrev pub invariant-loop-kept : goal.invariant-loop-kept
invariant-loop-kept l = TablesFirst l.tables l.marks.items l.count l.kept-index
