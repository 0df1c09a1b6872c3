use Rattle.sl_store_write.proofs.Inners.{AreWritten}
use Rattle.sl_store_write.proofs.items.+put_inner.Given as goal

abbrev pub invariant-rounds : goal.invariant-rounds
invariant-rounds l = AreWritten l.initial.out.items l.initial.places l.inside l.out.items l.places l.index
