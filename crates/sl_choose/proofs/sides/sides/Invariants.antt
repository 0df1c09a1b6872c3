use Rattle.sl_choose.proofs.SideLemmas.{SidesFirst}
use Rattle.sl_choose.proofs.sides.sides.Given as goal

abbrev pub invariant-loop-entry : goal.invariant-loop-entry
invariant-loop-entry l = SidesFirst l.entries l.bits l.low.items l.high.items l.entry-index
