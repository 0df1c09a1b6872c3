use Rattle.std.proofs.Common.{◌≡◌, ◌++◌, drop}
use Rattle.sl_decode.specs.Finishing.{roots}
use Rattle.sl_decode.proofs.finish.add_lengths.Given as goal

abbrev pub invariant-sprouts : goal.invariant-sprouts
invariant-sprouts l = l.lengths.items ++ roots l.skipped (drop l.index l.sprouts) ≡ l.initial.lengths.items ++ roots 0 l.sprouts
