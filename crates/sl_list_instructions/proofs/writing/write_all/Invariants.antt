use Rattle.std.proofs.Common.{◌-◌, ◌≤◌, length, take}
use Rattle.std.specs.Io.KnownBytes.{Appends}
use Rattle.sl_list_instructions.proofs.writing.write_all.Given as goal

abbrev pub invariant-pieces : goal.invariant-pieces
invariant-pieces g l = record {
  within : l.at ≤ length l.text;
  written : Appends (g.K.Sink.taken l.fn.out) (g.K.Sink.taken l.out) (take l.at l.text);
  faults : g.K.Sink.faults l.fn.out ≤ g.K.Sink.faults l.out;
  calls : g.K.Sink.calls l.fn.out ≤ g.K.Sink.calls l.out;
}

abbrev pub decreases-pieces : goal.decreases-pieces
decreases-pieces g l = length l.text - l.at
