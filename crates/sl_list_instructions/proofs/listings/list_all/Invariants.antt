use Rattle.std.proofs.Common.{◌≤◌, ◌-◌}
use Rattle.sl_list_instructions.specs.UnderWay.{IsUnderWay}
use Rattle.sl_list_instructions.proofs.listings.list_all.Given as goal

abbrev pub invariant-lines : goal.invariant-lines
invariant-lines g l = record {
  listed : IsUnderWay (g.L.Lister.shows l.lister) (g.L.Lister.end l.lister) l.at (g.L.Lister.start l.lister) l.contexts (g.K.Sink.taken l.initial.out) (g.K.Sink.taken l.out);
  faults : g.K.Sink.faults l.initial.out ≤ g.K.Sink.faults l.out;
  calls : g.K.Sink.calls l.initial.out ≤ g.K.Sink.calls l.out;
}

abbrev pub decreases-lines : goal.decreases-lines
decreases-lines g l = l.end - l.at
