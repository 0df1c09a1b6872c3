use Rattle.std.proofs.Common.{◌≡◌, ◌+◌, ◌-◌, ◌*◌}
use Rattle.sl_ast.specs.Operators.{pattern_right_rank}
use Rattle.sl_ast.specs.Trees.{joined}
use Rattle.sl_ast.specs.Validity.{heaviest}
use Rattle.sl_ast.specs.Views.{pattern_of}
use Rattle.sl_parse_grammar.specs.Climb.{climb, grown}
use Rattle.sl_parse_grammar.specs.Patterns.{pattern, pattern_turn}
use Rattle.sl_parse_phrases.proofs.patterns.+pattern.Given as goal

abbrev pub decreases-pattern : goal.decreases-pattern
decreases-pattern l = 16 * l.depth

abbrev pub decreases-grown : goal.decreases-grown
decreases-grown l = 16 * l.depth + 1

abbrev pub decreases-grouped : goal.decreases-grouped
decreases-grouped l = 16 * l.depth + 1

abbrev pub decreases-part : goal.decreases-part
decreases-part l = 16 * l.depth + 2

abbrev pub decreases-element : goal.decreases-element
decreases-element l = 16 * l.depth + 3

abbrev pub invariant-grown-rounds : goal.invariant-grown-rounds
invariant-grown-rounds l =
    grown (pattern_turn l.most) pattern_right_rank joined (pattern heaviest l.depth) (pattern_of l.fn.start) l.fn.symbols
    ≡ climb (pattern_turn l.most) pattern_right_rank joined (pattern heaviest l.depth) (l._round-end + 1 - l._round) (pattern_of l.left) l.symbols
