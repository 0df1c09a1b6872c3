use Rattle.std.proofs.Common.{◌≡◌, length}
use Rattle.sl_shape.proofs.shaping.empty_sets.Given as goal

abbrev pub invariant-sets : goal.invariant-sets
invariant-sets l = length l.sets.items ≡ l._index
