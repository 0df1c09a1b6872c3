-- meaning: the operators: their marks, how tight they bind, and which expressions take them.
use Rattle.std.specs.Prelude.{ℕ, suc, Bool, true, false, cond, ◌==◌, Option, List, [], ◌∷◌, codes}
use Rattle.sl_ast.specs.Symbols.{find}
use Rattle.sl_ast.specs.Trees.{Name, Expression, integer, named, paren, call, binary, Pattern, bare, constraint, group, joined}
use Rattle.sl_ast.specs.declared.expressions.BinaryOp.{BinaryOp}
use Rattle.sl_ast.specs.declared.expressions.BinaryOp.TheVariants as b
use Rattle.sl_ast.specs.declared.expressions.PrefixOp.{PrefixOp}
use Rattle.sl_ast.specs.declared.expressions.PrefixOp.TheVariants as p
use Rattle.sl_ast.specs.declared.patterns.PatternOp.{PatternOp}
use Rattle.sl_ast.specs.declared.patterns.PatternOp.TheVariants as j
use Rattle.sl_ast.specs.declared.patterns.Relation.{Relation}
use Rattle.sl_ast.specs.declared.patterns.Relation.TheVariants as r
use Rattle.sl_ast.specs.declared.symbols.Feature.{Feature}
use Rattle.sl_ast.specs.declared.symbols.Feature.TheVariants as f
use Rattle.sl_ast.specs.declared.symbols.Mark.{Mark}
use Rattle.sl_ast.specs.declared.symbols.Mark.TheVariants as m

-- ---- marks

abbrev pub prefix_mark : PrefixOp → Mark
prefix_mark p.Negate = m.Minus
prefix_mark p.Complement = m.Tilde
prefix_mark p.Not = m.Exclamation

abbrev pub binary_mark : BinaryOp → Mark
binary_mark b.Multiply = m.Star
binary_mark b.Divide = m.Slash
binary_mark b.Remainder = m.Percent
binary_mark b.SignedDivide = m.SignedSlash
binary_mark b.SignedRemainder = m.SignedPercent
binary_mark b.Add = m.Plus
binary_mark b.Subtract = m.Minus
binary_mark b.ShiftLeft = m.ShiftLeft
binary_mark b.ShiftRight = m.ShiftRight
binary_mark b.SignedShiftRight = m.SignedShiftRight
binary_mark b.Less = m.Less
binary_mark b.LessEqual = m.LessEqual
binary_mark b.Greater = m.Greater
binary_mark b.GreaterEqual = m.GreaterEqual
binary_mark b.SignedLess = m.SignedLess
binary_mark b.SignedLessEqual = m.SignedLessEqual
binary_mark b.SignedGreater = m.SignedGreater
binary_mark b.SignedGreaterEqual = m.SignedGreaterEqual
binary_mark b.Equal = m.EqualEqual
binary_mark b.NotEqual = m.NotEqual
binary_mark b.And = m.Ampersand
binary_mark b.Xor = m.Caret
binary_mark b.Or = m.Bar
binary_mark b.BooleanAnd = m.AndAnd
binary_mark b.BooleanXor = m.CaretCaret
binary_mark b.BooleanOr = m.BarBar
binary_mark b.WordAnd = m.WordAnd
binary_mark b.WordXor = m.WordXor
binary_mark b.WordOr = m.WordOr

abbrev pub relation_mark : Relation → Mark
relation_mark r.Equal = m.Equals
relation_mark r.NotEqual = m.NotEqual
relation_mark r.Less = m.Less
relation_mark r.LessEqual = m.LessEqual
relation_mark r.Greater = m.Greater
relation_mark r.GreaterEqual = m.GreaterEqual

abbrev pub pattern_mark : PatternOp → Mark
pattern_mark j.And = m.Ampersand
pattern_mark j.Then = m.Semicolon
pattern_mark j.Or = m.Bar

-- ---- binding

-- The loosest rank of an operator's right operand. The operator's own rank is one more; what is no operation
-- of two operands has rank 0.
abbrev pub right_rank : BinaryOp → ℕ
right_rank b.Multiply = 0
right_rank b.Divide = 0
right_rank b.Remainder = 0
right_rank b.SignedDivide = 0
right_rank b.SignedRemainder = 0
right_rank b.Add = 1
right_rank b.Subtract = 1
right_rank b.ShiftLeft = 2
right_rank b.ShiftRight = 2
right_rank b.SignedShiftRight = 2
right_rank b.Less = 3
right_rank b.LessEqual = 3
right_rank b.Greater = 3
right_rank b.GreaterEqual = 3
right_rank b.SignedLess = 3
right_rank b.SignedLessEqual = 3
right_rank b.SignedGreater = 3
right_rank b.SignedGreaterEqual = 3
right_rank b.Equal = 4
right_rank b.NotEqual = 4
right_rank b.And = 5
right_rank b.WordAnd = 5
right_rank b.Xor = 6
right_rank b.WordXor = 6
right_rank b.Or = 7
right_rank b.WordOr = 7
right_rank b.BooleanAnd = 8
right_rank b.BooleanXor = 8
right_rank b.BooleanOr = 9

-- the loosest rank of a left operand: operators of a rank chain from the left, but comparisons do not chain
abbrev pub left_rank : BinaryOp → ℕ
left_rank op = cond (right_rank op == 3) 3 (suc (right_rank op))

abbrev pub rank : Expression → ℕ
rank (binary op l r) = suc (right_rank op)
rank e = 0

-- the loosest rank
abbrev pub loosest : ℕ
loosest = 10

-- `&` binds tighter than `;`, and `;` tighter than `|`; all chain from the left
abbrev pub pattern_right_rank : PatternOp → ℕ
pattern_right_rank j.And = 0
pattern_right_rank j.Then = 1
pattern_right_rank j.Or = 2

abbrev pub pattern_rank : Pattern → ℕ
pattern_rank (joined op p q) = suc (pattern_right_rank op)
pattern_rank p = 0

abbrev pub pattern_loosest : ℕ
pattern_loosest = 3

-- ---- where an expression stands, and what it may be made of

pub data Kind : Type 0 where
  in_section : Kind
  in_action : Kind
  in_constraint : Kind

abbrev pub is_section : Kind → Bool
is_section in_section = true
is_section in_action = false
is_section in_constraint = false

abbrev pub has_names : Kind → Bool
has_names in_section = true
has_names in_action = true
has_names in_constraint = false

abbrev pub has_word_marks : Kind → Bool
has_word_marks in_section = false
has_word_marks in_action = true
has_word_marks in_constraint = true

abbrev pub has_prefix : Kind → PrefixOp → Bool
has_prefix kind p.Negate = true
has_prefix kind p.Complement = true
has_prefix kind p.Not = is_section kind

abbrev pub has_operator : Kind → BinaryOp → Bool
has_operator kind b.Multiply = true
has_operator kind b.Divide = true
has_operator kind b.Add = true
has_operator kind b.Subtract = true
has_operator kind b.ShiftLeft = true
has_operator kind b.ShiftRight = true
has_operator kind b.And = has_names kind
has_operator kind b.Xor = has_names kind
has_operator kind b.Or = has_names kind
has_operator kind b.WordAnd = has_word_marks kind
has_operator kind b.WordXor = has_word_marks kind
has_operator kind b.WordOr = has_word_marks kind
has_operator kind op = is_section kind

-- what `:n` may follow
abbrev pub takes_size : Expression → Bool
takes_size (integer n) = true
takes_size (named w) = true
takes_size (paren e) = true
takes_size (call w es) = true
takes_size e = false

-- what `[l,c]` may follow
abbrev pub takes_bits : Expression → Bool
takes_bits (named w) = true
takes_bits (paren e) = true
takes_bits (call w es) = true
takes_bits e = false

-- what `(n)` may follow: behind a name it would be a call
abbrev pub takes_drop : Expression → Bool
takes_drop (paren e) = true
takes_drop (call w es) = true
takes_drop e = false

-- what `...` may follow
abbrev pub takes_ellipsis : Pattern → Bool
takes_ellipsis (bare w) = true
takes_ellipsis (constraint w rel e) = true
takes_ellipsis (group p) = true
takes_ellipsis p = false

-- the functions of sections that the language leaves out, by the feature that they belong to
abbrev pub missing_functions : List (List ℕ × Feature)
missing_functions =
    (codes "nan", f.FloatingPoint) ∷ (codes "abs", f.FloatingPoint) ∷ (codes "sqrt", f.FloatingPoint) ∷ (codes "int2float", f.FloatingPoint)
    ∷ (codes "float2float", f.FloatingPoint) ∷ (codes "trunc", f.FloatingPoint) ∷ (codes "ceil", f.FloatingPoint)
    ∷ (codes "floor", f.FloatingPoint) ∷ (codes "round", f.FloatingPoint) ∷ (codes "cpool", f.ConstantPool) ∷ (codes "newobject", f.NewObject) ∷ []

unfoldable pub missing_function : Name → Option Feature
missing_function w = find w missing_functions

-- the words that are no statement's first
abbrev pub missing_statements : List (List ℕ × Feature)
missing_statements = (codes "crossbuild", f.Crossbuild) ∷ (codes "delayslot", f.DelaySlot) ∷ []

unfoldable pub missing_statement : Name → Option Feature
missing_statement w = find w missing_statements

-- the greatest size that is written, in bytes
abbrev pub widest : ℕ
widest = 16
