use Rattle.std.proofs.Common.{length}
use Rattle.sl_shape.proofs.order.+add_in_blocks.Given as goal

abbrev pub decreases-add_in_blocks : goal.decreases-add_in_blocks
decreases-add_in_blocks l = length l.heads.now
