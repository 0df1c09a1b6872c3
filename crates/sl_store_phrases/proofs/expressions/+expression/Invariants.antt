use Rattle.std.proofs.Common.{◌≡◌, ◌+◌, ◌-◌, ◌*◌, ℕ}
use Rattle.sl_ast.specs.Operators.{loosest}
use Rattle.sl_ast.specs.Validity.{weights}
use Rattle.sl_ast.specs.Views.{arguments, expression_of, expressions_of}
use Rattle.sl_store_format.specs.Expressions.{expression, given, room_after}
use Rattle.sl_store_bytes.specs.Lists.{collected, some_more}
use Rattle.sl_store_bytes.specs.Reads.{seen_by}
use Rattle.sl_parse_phrases.specs.Kinds.{kind_of}
use Rattle.sl_store_phrases.proofs.expressions.+expression.Given as goal

abbrev pub decreases-expression : goal.decreases-expression
decreases-expression l = 8 * l.depth

abbrev pub decreases-formed : goal.decreases-formed
decreases-formed l = 8 * l.depth + 5

abbrev pub decreases-bracketed : goal.decreases-bracketed
decreases-bracketed l = 8 * l.depth + 1

abbrev pub decreases-given : goal.decreases-given
decreases-given l = 8 * l.depth + 1

abbrev pub decreases-prefixed : goal.decreases-prefixed
decreases-prefixed l = 8 * l.depth + 1

abbrev pub decreases-starred : goal.decreases-starred
decreases-starred l = 8 * l.depth + 1

abbrev pub decreases-joined_here : goal.decreases-joined_here
decreases-joined_here l = 8 * l.depth + 1

abbrev pub decreases-called : goal.decreases-called
decreases-called l = 8 * l.depth + 2

abbrev pub decreases-simple : goal.decreases-simple
decreases-simple l = 8 * l.depth + 3

abbrev pub decreases-followed : goal.decreases-followed
decreases-followed l = 8 * l.depth + 4

abbrev pub invariant-given-rounds : goal.invariant-given-rounds
invariant-given-rounds l = record {
  reads :
      given (kind_of l.kind) (expression (kind_of l.kind) l.depth) l.fn.room l.fn.bytes
      ≡ collected (seen_by expression_of l.found) (some_more (λ left (r : ℕ). expression (kind_of l.kind) l.depth r loosest) room_after (l.count - l._round) l.room l.bytes);
  spent : l.room ≡ l.fn.room - weights (arguments (expressions_of l.found.items));
}
