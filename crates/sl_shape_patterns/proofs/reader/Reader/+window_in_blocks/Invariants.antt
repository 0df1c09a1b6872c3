use Rattle.std.proofs.Common.{length}
use Rattle.sl_shape_patterns.proofs.reader.Reader.+window_in_blocks.Given as goal

abbrev pub decreases-window_in_blocks : goal.decreases-window_in_blocks
decreases-window_in_blocks g l = length l.heads.now
