use Rattle.std.proofs.Common.{◌≡◌, take}
use Rattle.sl_build.specs.Pieces.{lengths_in}
use Rattle.sl_build.specs.Views.{pieces_of}
use Rattle.sl_build.proofs.filling.lengths_of.Given as goal

abbrev pub invariant-trees : goal.invariant-trees
invariant-trees l = l.lengths.items ≡ lengths_in (pieces_of (take l.index l.trees.items))
