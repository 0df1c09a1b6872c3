use Rattle.std.proofs.Common.{◌≡◌, ◌++◌, length}
use Rattle.sl_build.specs.Pieces.{behind_of, below_of}
use Rattle.sl_build.specs.Views.{pieces_of}
use Rattle.sl_build.proofs.trees.take_below.Given as goal

abbrev pub invariant-trees : goal.invariant-trees
invariant-trees l = record {
  below : pieces_of l.below.items ++ below_of l.left (pieces_of l.done.items) ≡ below_of l.count (pieces_of l.initial.done.items);
  behind : behind_of l.left (pieces_of l.done.items) ≡ behind_of l.count (pieces_of l.initial.done.items);
}

abbrev pub decreases-trees : goal.decreases-trees
decreases-trees l = length l.done.items
