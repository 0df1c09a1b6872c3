use Rattle.sl_gap.proofs.ListLemmas.{UnmarkedFirst}
use Rattle.sl_gap.proofs.unmarked.unmarked.Given as goal

abbrev pub invariant-marks : goal.invariant-marks
invariant-marks l = UnmarkedFirst l.marks l.ids.items l.number
