use Rattle.std.proofs.Common.{◌≡◌, ◌+◌, ◌-◌, ◌*◌}
use Rattle.sl_ast.specs.Operators.{loosest, right_rank}
use Rattle.sl_ast.specs.Trees.{binary}
use Rattle.sl_ast.specs.Views.{expression_of}
use Rattle.sl_parse_grammar.specs.Climb.{climb, grown}
use Rattle.sl_parse_grammar.specs.Expressions.{expression, turn}
use Rattle.sl_parse_grammar.specs.Lists.{separated, separated_from}
use Rattle.sl_parse_phrases.specs.Kinds.{kind_of}
use Rattle.sl_parse_phrases.specs.Reads.{vec_expressions}
use Rattle.sl_parse_phrases.proofs.expressions.+expression.Given as goal

abbrev pub decreases-expression : goal.decreases-expression
decreases-expression l = 16 * l.depth

abbrev pub decreases-grown : goal.decreases-grown
decreases-grown l = 16 * l.depth + 1

abbrev pub decreases-arguments : goal.decreases-arguments
decreases-arguments l = 16 * l.depth + 1

abbrev pub decreases-bracketed : goal.decreases-bracketed
decreases-bracketed l = 16 * l.depth + 1

abbrev pub decreases-prefixed : goal.decreases-prefixed
decreases-prefixed l = 16 * l.depth + 1

abbrev pub decreases-starred : goal.decreases-starred
decreases-starred l = 16 * l.depth + 1

abbrev pub decreases-called : goal.decreases-called
decreases-called l = 16 * l.depth + 2

abbrev pub decreases-after_name : goal.decreases-after_name
decreases-after_name l = 16 * l.depth + 3

abbrev pub decreases-atom : goal.decreases-atom
decreases-atom l = 16 * l.depth + 4

abbrev pub decreases-postfix : goal.decreases-postfix
decreases-postfix l = 16 * l.depth + 5

abbrev pub decreases-tight : goal.decreases-tight
decreases-tight l = 16 * l.depth + 6

abbrev pub invariant-grown-rounds : goal.invariant-grown-rounds
invariant-grown-rounds l =
    grown (turn (kind_of l.kind) l.most) right_rank binary (expression (kind_of l.kind) l.depth) (expression_of l.fn.start) l.fn.symbols
    ≡ climb (turn (kind_of l.kind) l.most) right_rank binary (expression (kind_of l.kind) l.depth) (l._round-end + 1 - l._round) (expression_of l.left) l.symbols

abbrev pub invariant-arguments-rounds : goal.invariant-arguments-rounds
invariant-arguments-rounds l =
    separated (expression (kind_of l.kind) l.depth loosest) l.fn.symbols
    ≡ separated_from (expression (kind_of l.kind) l.depth loosest) (l._round-end + 1 - l._round) (vec_expressions l.found) l.symbols
