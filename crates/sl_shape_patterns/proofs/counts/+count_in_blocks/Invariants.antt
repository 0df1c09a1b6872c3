use Rattle.std.proofs.Common.{length}
use Rattle.sl_shape_patterns.proofs.counts.+count_in_blocks.Given as goal

abbrev pub decreases-count_in_blocks : goal.decreases-count_in_blocks
decreases-count_in_blocks l = length l.heads.now
