use Rattle.sl_choose.proofs.SharedLemmas.{SharedFirst}
use Rattle.sl_choose.proofs.shared.shared_by.Given as goal

abbrev pub invariant-loop-entry : goal.invariant-loop-entry
invariant-loop-entry l = SharedFirst l.entries l.shared l.entry-index
