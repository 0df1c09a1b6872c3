use Rattle.sl_store_write.proofs.Puts.{AreWritten}
use Rattle.sl_store_write.proofs.put.put_all.Given as goal

abbrev pub invariant-rounds : goal.invariant-rounds
invariant-rounds g l = AreWritten g.P.Put.write g.P.Put.view l.initial.out.items l.members l.out.items l.index
