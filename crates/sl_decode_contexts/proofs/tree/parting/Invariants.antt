use Rattle.std.proofs.Common.{◌<◌, ◌≤◌}
use Rattle.sl_decode_contexts.proofs.tree.parting.Given as goal

abbrev pub invariant-bits : goal.invariant-bits
invariant-bits l = (l.below < l.split) × (l.split ≤ l.above)
