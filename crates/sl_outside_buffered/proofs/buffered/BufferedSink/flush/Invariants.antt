use Rattle.std.proofs.Common.{◌≡◌, ◌≤◌, ◌-◌, length}
use Rattle.std.specs.Io.KnownBytes.{Keeps}
use Rattle.sl_outside_buffered.specs.Buffered.{all_taken, waiting}
use Rattle.sl_outside_buffered.proofs.buffered.BufferedSink.flush.Given as goal

abbrev pub invariant-pieces : goal.invariant-pieces
invariant-pieces g l = record {
  same : Keeps (all_taken (g.K.Sink.taken l.initial.self.sink) (waiting l.initial.self.handed l.initial.self.gathered.items))
      (all_taken (g.K.Sink.taken l.self.sink) (waiting l.self.handed l.self.gathered.items));
  faults : g.K.Sink.faults l.initial.self.sink ≤ g.K.Sink.faults l.self.sink;
  calls : l.self.calls ≡ l.initial.self.calls;
}

abbrev pub decreases-pieces : goal.decreases-pieces
decreases-pieces g l = length l.self.gathered.items - l.self.handed
