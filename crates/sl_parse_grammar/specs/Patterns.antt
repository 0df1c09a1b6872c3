-- law: the reader of bit patterns.
use Rattle.std.specs.Prelude.{ℕ, zero, suc, ◌&&◌, if◌then◌else◌, Option, Some, None, Err, nat_le}
use Rattle.sl_ast.specs.Operators.{in_constraint, loosest, pattern_rank, pattern_right_rank, pattern_loosest}
use Rattle.sl_ast.specs.Symbols.{plain, Sym, word, mark}
use Rattle.sl_ast.specs.Trees.{Name, Pattern, bare, constraint, group, ellipsis, joined}
use Rattle.sl_ast.specs.declared.patterns.PatternOp.{PatternOp}
use Rattle.sl_ast.specs.declared.patterns.PatternOp.TheVariants as j
use Rattle.sl_ast.specs.declared.patterns.Relation.{Relation}
use Rattle.sl_ast.specs.declared.patterns.Relation.TheVariants as r
use Rattle.sl_ast.specs.declared.symbols.Feature.TheVariants as f
use Rattle.sl_ast.specs.declared.symbols.Mark.{Mark}
use Rattle.sl_ast.specs.declared.symbols.Mark.TheVariants as m
use Rattle.sl_parse_grammar.specs.Climb.{grown}
use Rattle.sl_parse_grammar.specs.Expressions.{expression, with_room}
use Rattle.sl_parse_grammar.specs.Reader.{at, left, fault, nesting, Reader, ◌>>=◌, ◌>>◌, pure, peek, skip, enter, unsupport, refuse, is_mark, look, expect}

abbrev pub relation_of : Mark → Option Relation
relation_of m.Equals = Some r.Equal
relation_of m.NotEqual = Some r.NotEqual
relation_of m.Less = Some r.Less
relation_of m.LessEqual = Some r.LessEqual
relation_of m.Greater = Some r.Greater
relation_of m.GreaterEqual = Some r.GreaterEqual
relation_of k = None

abbrev pub relation_in : Option Sym → Option Relation
relation_in (Some (mark k)) = relation_of k
relation_in o = None

abbrev pub joining_of : Mark → Option PatternOp
joining_of m.Ampersand = Some j.And
joining_of m.Semicolon = Some j.Then
joining_of m.Bar = Some j.Or
joining_of k = None

abbrev pub joining_in : Option Sym → Option PatternOp
joining_in (Some (mark k)) = joining_of k
joining_in o = None

-- the operator, if it binds at this rank or tighter with this left pattern
abbrev pub pattern_allowed : ℕ → Pattern → Option PatternOp → Option PatternOp
pattern_allowed n p None = None
pattern_allowed n p (Some op) = if nat_le (suc (pattern_right_rank op)) n && nat_le (pattern_rank p) (suc (pattern_right_rank op)) then Some op else None

unfoldable pub pattern_turn : ℕ → Pattern → Option Sym → Option PatternOp
pattern_turn n p o = pattern_allowed n p (joining_in o)

-- a pattern in brackets; patterns inside are read by `inner`
unfoldable pub grouped : (ℕ → Reader Pattern) → Reader Pattern
grouped inner = do
  enter
  p ← inner pattern_loosest
  expect m.Close
  pure (group p)

-- ---- patterns of an outermost one with at most so many operators and opening brackets

module _ (most : ℕ) where
  -- A constraint's expression has the room of its pattern.
  unfoldable pub constrained : Name → Relation → Reader Pattern
  constrained w rel = do
    enter
    e ← expression in_constraint (suc most) loosest
    pure (constraint w rel e)

  abbrev pub related : Name → Option Relation → Reader Pattern
  related w None = pure (bare w)
  related w (Some rel) = constrained w rel

  unfoldable pub after_field : Name → Reader Pattern
  after_field w = peek >>= (λ o. related w (relation_in o))

  module _ (inner : ℕ → Reader Pattern) where
    abbrev pub part_by : Option Sym → Reader Pattern
    part_by (Some (word (plain w))) = skip >> after_field w
    part_by (Some (mark m.Open)) = grouped inner
    part_by (Some (mark m.Ellipsis)) = unsupport f.LeadingEllipsis 0
    part_by o = refuse

    unfoldable pub part : Reader Pattern
    part = peek >>= part_by

    unfoldable pub element : Reader Pattern
    element = part >>= (λ p. look (is_mark m.Ellipsis) (enter >> pure (ellipsis p)) (pure p))

  -- A pattern of a rank. Brackets and right operands are nested no deeper than the first number.
  unfoldable pub pattern : ℕ → ℕ → Reader Pattern
  pattern zero n = λ i. Err (fault nesting (left i))
  pattern (suc k) n = element (pattern k) >>= grown (pattern_turn n) pattern_right_rank joined (pattern k)

  -- a pattern that stands in no other
  unfoldable pub whole_pattern : Reader Pattern
  whole_pattern = λ i. with_room i.room (pattern (suc most) pattern_loosest (at i.rest most))
