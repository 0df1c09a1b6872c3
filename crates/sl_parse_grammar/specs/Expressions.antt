-- law: the reader of expressions.
use Rattle.std.specs.Prelude.{ℕ, zero, suc, ◌&&◌, if◌then◌else◌, Option, Some, None, Ok, Err, nat_le}
use Rattle.sl_ast.specs.Operators.{Kind, in_section, in_action, in_constraint, is_section, has_operator, rank, right_rank, left_rank, loosest, takes_size, takes_bits, takes_drop, missing_function}
use Rattle.sl_ast.specs.Symbols.{plain, quoted, Sym, number, word, mark}
use Rattle.sl_ast.specs.Trees.{Name, Expression, integer, named, paren, call, sized, dropped, bits, prefix, star, binary}
use Rattle.sl_ast.specs.Views.{arguments}
use Rattle.sl_ast.specs.declared.expressions.BinaryOp.{BinaryOp}
use Rattle.sl_ast.specs.declared.expressions.BinaryOp.TheVariants as b
use Rattle.sl_ast.specs.declared.expressions.PrefixOp.{PrefixOp}
use Rattle.sl_ast.specs.declared.expressions.PrefixOp.TheVariants as p
use Rattle.sl_ast.specs.declared.symbols.Feature.{Feature}
use Rattle.sl_ast.specs.declared.symbols.Feature.TheVariants as f
use Rattle.sl_ast.specs.declared.symbols.Keyword.TheVariants as k
use Rattle.sl_ast.specs.declared.symbols.Mark.{Mark}
use Rattle.sl_ast.specs.declared.symbols.Mark.TheVariants as m
use Rattle.sl_parse_grammar.specs.Climb.{grown}
use Rattle.sl_parse_grammar.specs.Lists.{separated}
use Rattle.sl_parse_grammar.specs.Reader.{at, left, fault, nesting, Outcome, Reader, ◌>>=◌, ◌>>◌, pure, peek, skip, enter, unsupport, refuse, is_mark, look, expect, integer_here, name_here, size_here, optional, size_option}

-- ---- operators

abbrev pub binary_of : Mark → Option BinaryOp
binary_of m.Star = Some b.Multiply
binary_of m.Slash = Some b.Divide
binary_of m.Percent = Some b.Remainder
binary_of m.SignedSlash = Some b.SignedDivide
binary_of m.SignedPercent = Some b.SignedRemainder
binary_of m.Plus = Some b.Add
binary_of m.Minus = Some b.Subtract
binary_of m.ShiftLeft = Some b.ShiftLeft
binary_of m.ShiftRight = Some b.ShiftRight
binary_of m.SignedShiftRight = Some b.SignedShiftRight
binary_of m.Less = Some b.Less
binary_of m.LessEqual = Some b.LessEqual
binary_of m.Greater = Some b.Greater
binary_of m.GreaterEqual = Some b.GreaterEqual
binary_of m.SignedLess = Some b.SignedLess
binary_of m.SignedLessEqual = Some b.SignedLessEqual
binary_of m.SignedGreater = Some b.SignedGreater
binary_of m.SignedGreaterEqual = Some b.SignedGreaterEqual
binary_of m.EqualEqual = Some b.Equal
binary_of m.NotEqual = Some b.NotEqual
binary_of m.Ampersand = Some b.And
binary_of m.Caret = Some b.Xor
binary_of m.Bar = Some b.Or
binary_of m.AndAnd = Some b.BooleanAnd
binary_of m.CaretCaret = Some b.BooleanXor
binary_of m.BarBar = Some b.BooleanOr
binary_of m.WordAnd = Some b.WordAnd
binary_of m.WordXor = Some b.WordXor
binary_of m.WordOr = Some b.WordOr
binary_of k = None

abbrev pub operator_of : Option Sym → Option BinaryOp
operator_of (Some (mark k)) = binary_of k
operator_of o = None

-- the operator, if an expression of this kind has it, and it binds at this rank or tighter with this left operand
abbrev pub allowed : Kind → ℕ → Expression → Option BinaryOp → Option BinaryOp
allowed kind n l None = None
allowed kind n l (Some op) = if has_operator kind op && (nat_le (suc (right_rank op)) n && nat_le (rank l) (left_rank op)) then Some op else None

unfoldable pub turn : Kind → ℕ → Expression → Option Sym → Option BinaryOp
turn kind n l o = allowed kind n l (operator_of o)

-- ---- what stands behind an atom of a section, and in a star form

unfoldable pub size_behind : Expression → Reader Expression
size_behind e = do
  skip
  n ← size_here
  pure (sized e n)

unfoldable pub drop_behind : Expression → Reader Expression
drop_behind e = do
  enter
  n ← integer_here
  expect m.Close
  pure (dropped e n)

unfoldable pub bits_behind : Expression → Reader Expression
bits_behind e = do
  enter
  l ← integer_here
  expect m.Comma
  c ← integer_here
  expect m.CloseBracket
  pure (bits e l c)

-- one of these, if it may follow the atom
unfoldable pub behind : Expression → Reader Expression
behind e =
    look (λ o. is_mark m.Colon o && takes_size e) (size_behind e)
    (look (λ o. is_mark m.Open o && takes_drop e) (drop_behind e)
    (look (λ o. is_mark m.OpenBracket o && takes_bits e) (bits_behind e) (pure e)))

unfoldable pub space_in : Reader (Option Name)
space_in = optional (is_mark m.OpenBracket) (do enter; w ← name_here; expect m.CloseBracket; pure w)

-- ---- Expressions in brackets and operands are read by `inner`, by their loosest rank.

module _ (kind : Kind) (inner : ℕ → Reader Expression) where
  unfoldable pub bracketed : Reader Expression
  bracketed = do
    enter
    e ← inner loosest
    expect m.Close
    pure (paren e)

  unfoldable pub called : Name → Reader Expression
  called w = do
    enter
    es ← separated (inner loosest)
    expect m.Close
    pure (call w (arguments es))

  -- behind the name: a function that is left out is refused at its name
  abbrev pub called_by : Name → Option Feature → Reader Expression
  called_by w None = called w
  called_by w (Some feature) = unsupport feature 1

  unfoldable pub after_name : Name → Reader Expression
  after_name w = look (is_mark m.Open) (called_by w (missing_function w)) (pure (named w))

  abbrev pub name_in : Kind → Name → Reader Expression
  name_in in_section w = skip >> after_name w
  name_in in_action w = skip >> pure (named w)
  name_in in_constraint w = unsupport f.NameInConstraint 0

  abbrev pub missing_name_in : Kind → Reader Expression
  missing_name_in in_section = refuse
  missing_name_in in_action = refuse
  missing_name_in in_constraint = unsupport f.NameInConstraint 0

  abbrev pub atom_by : Option Sym → Reader Expression
  atom_by (Some (number n)) = skip >> pure (integer n)
  atom_by (Some (word (plain w))) = name_in kind w
  atom_by (Some (word (quoted k.InstNext2))) = missing_name_in kind
  atom_by (Some (mark m.Open)) = bracketed
  atom_by o = refuse

  unfoldable pub atom : Reader Expression
  atom = peek >>= atom_by

  unfoldable pub postfix : Reader Expression
  postfix = atom >>= (λ e. if is_section kind then behind e else pure e)

  unfoldable pub prefixed : PrefixOp → Reader Expression
  prefixed op = do
    enter
    e ← inner 0
    pure (prefix op e)

  unfoldable pub starred : Reader Expression
  starred = do
    enter
    place ← space_in
    width ← size_option
    e ← inner 0
    pure (star place width e)

  abbrev pub prefix_by : Option Sym → Reader Expression
  prefix_by (Some (mark m.Minus)) = prefixed p.Negate
  prefix_by (Some (mark m.Tilde)) = prefixed p.Complement
  prefix_by (Some (mark m.Exclamation)) = if is_section kind then prefixed p.Not else refuse
  prefix_by (Some (mark m.Star)) = if is_section kind then starred else refuse
  prefix_by (Some (mark m.Ampersand)) = unsupport f.AddressOf 0
  prefix_by o = postfix

  unfoldable pub tight : Reader Expression
  tight = peek >>= prefix_by

-- An expression of a rank. Brackets, prefixes and right operands are nested no deeper than the first number.
unfoldable pub expression : Kind → ℕ → ℕ → Reader Expression
expression kind zero n = λ i. Err (fault nesting (left i))
expression kind (suc k) n = tight kind (expression kind k) >>= grown (turn kind n) right_rank binary (expression kind k)

abbrev pub with_room : {A : Type 0} → ℕ → Outcome A → Outcome A
with_room r (Ok p) = Ok (p.0, at p.1.rest r)
with_room r (Err e) = Err e

-- an expression that stands in no other, with at most so many operators and opening brackets
unfoldable pub whole : ℕ → Kind → Reader Expression
whole most kind = λ i. with_room i.room (expression kind (suc most) loosest (at i.rest most))
