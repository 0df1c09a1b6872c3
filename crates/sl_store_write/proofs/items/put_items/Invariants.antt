use Rattle.sl_store_write.proofs.Inners.{ItemsWritten}
use Rattle.sl_store_write.proofs.items.put_items.Given as goal

abbrev pub invariant-rounds : goal.invariant-rounds
invariant-rounds l = ItemsWritten l.initial.out.items l.initial.places l.items l.out.items l.places l.index
