use Rattle.std.proofs.Common.{◌≡◌, take}
use Rattle.sl_choose.specs.Sides.{has_count, lacks_count}
use Rattle.sl_choose.proofs.splits.lengths.Given as goal

abbrev pub invariant-loop-entry : goal.invariant-loop-entry
invariant-loop-entry l = (l.low ≡ lacks_count l.bits (take l.entry-index l.entries)) × (l.high ≡ has_count l.bits (take l.entry-index l.entries))
