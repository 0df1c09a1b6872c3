use Rattle.std.proofs.Common.{length}
use Rattle.sl_explain_heads.proofs.heads.+pattern_words.Given as goal

abbrev pub decreases-pattern_words : goal.decreases-pattern_words
decreases-pattern_words l = length l.blocks.now
