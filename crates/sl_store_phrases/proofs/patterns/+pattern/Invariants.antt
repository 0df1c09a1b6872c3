use Rattle.std.proofs.Common.{◌+◌, ◌*◌}
use Rattle.sl_store_phrases.proofs.patterns.+pattern.Given as goal

abbrev pub decreases-pattern : goal.decreases-pattern
decreases-pattern l = 8 * l.depth

abbrev pub decreases-formed : goal.decreases-formed
decreases-formed l = 8 * l.depth + 4

abbrev pub decreases-grouped : goal.decreases-grouped
decreases-grouped l = 8 * l.depth + 1

abbrev pub decreases-both_patterns : goal.decreases-both_patterns
decreases-both_patterns l = 8 * l.depth + 1

abbrev pub decreases-simple : goal.decreases-simple
decreases-simple l = 8 * l.depth + 2

abbrev pub decreases-with_ellipsis : goal.decreases-with_ellipsis
decreases-with_ellipsis l = 8 * l.depth + 3
