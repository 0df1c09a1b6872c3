use Rattle.std.proofs.Common.{length}
use Rattle.sl_shape.proofs.below.Below.+shape_in_blocks.Given as goal

abbrev pub decreases-shape_in_blocks : goal.decreases-shape_in_blocks
decreases-shape_in_blocks l = length l.heads.now
