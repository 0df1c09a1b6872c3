use Rattle.std.proofs.Common.{arith}
use Rattle.sl_outside_buffered.proofs.BufferLemmas.{handed_on, split_at}
use Rattle.sl_outside_buffered.proofs.buffered.BufferedSink.flush.Goals as goal

pub pieces-preserved : goal.pieces-preserved
pieces-preserved g c = record {
  same = handed_on _ _ _ _ _ _ (split_at c.pieces.self.gathered.items c.pieces.self.handed c.in-Ok.count) c.pieces.invariant.same (rw c.deref.ensures.value at c.in-Ok.ensures.appends);
  faults = omega (arith, c.pieces.invariant.faults, c.put.ensures.sink.never_falls);
  calls = c.pieces.invariant.calls;
}
