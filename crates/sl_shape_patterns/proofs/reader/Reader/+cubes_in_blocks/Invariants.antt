use Rattle.std.proofs.Common.{length}
use Rattle.sl_shape_patterns.proofs.reader.Reader.+cubes_in_blocks.Given as goal

abbrev pub decreases-cubes_in_blocks : goal.decreases-cubes_in_blocks
decreases-cubes_in_blocks g l = length l.heads.now
