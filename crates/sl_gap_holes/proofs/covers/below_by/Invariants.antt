use Rattle.sl_gap_holes.proofs.CoverLemmas.{BelowFirst}
use Rattle.sl_gap_holes.proofs.covers.below_by.Given as goal

abbrev pub invariant-sets : goal.invariant-sets
invariant-sets l = BelowFirst l.sets l.set l.covers.items l.other
