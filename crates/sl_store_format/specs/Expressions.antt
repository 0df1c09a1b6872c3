-- meaning: expressions as bytes, the conditions on their leaves, and their reader.
use Rattle.std.specs.Prelude.{◌≡◌, ◌≤◌, ℕ, zero, suc, ◌+◌, ◌-◌, Bool, true, false, ◌&&◌, ◌||◌, ◌==◌, nat_le, if◌then◌else◌, List, [], ◌∷◌, ◌++◌, Option, None, Some}
use Rattle.sl_ast.specs.Operators.{Kind, in_section, in_action, is_section, has_names, has_prefix, has_operator, rank, right_rank, left_rank, loosest, widest}
use Rattle.sl_ast.specs.Trees.{Name, Expression, Expressions, integer, named, paren, call, sized, dropped, bits, prefix, star, binary, no_more, with_more}
use Rattle.sl_ast.specs.Validity.{Binds, IfWritten, heaviest, space_weight, weight}
use Rattle.sl_ast.specs.Views.{arguments}
use Rattle.sl_ast.specs.declared.expressions.BinaryOp.{BinaryOp}
use Rattle.sl_store_format.specs.StatementForms.{expression_forms}
use Rattle.sl_store_format.specs.declared.forms.ExpressionForm.{ExpressionForm}
use Rattle.sl_store_format.specs.declared.forms.ExpressionForm.TheVariants as x
use Rattle.sl_store_bytes.specs.Lexemes.{write_bytes}
use Rattle.sl_store_bytes.specs.Lists.{write_option, option, listed}
use Rattle.sl_store_bytes.specs.Numbers.{write_number, number, greatest}
use Rattle.sl_store_bytes.specs.Orders.{prefix_code, prefixes, operator_code, operators}
use Rattle.sl_store_bytes.specs.Reader.{Reader, ◌>>=◌, pure, byte}
use Rattle.sl_store_bytes.specs.Tables.{coded_if}
use Rattle.sl_store_bytes.specs.Words.{name, called_name, IsName}

abbrev pub count : Expressions → ℕ
count no_more = 0
count (with_more e es) = suc (count es)

abbrev mutual
  pub write_expression : Expression → List ℕ
  write_expression (integer n) = 0 ∷ write_number n
  write_expression (named w) = 1 ∷ write_bytes w
  write_expression (paren e) = 2 ∷ write_expression e
  write_expression (call w es) = 3 ∷ (write_bytes w ++ (write_number (count es) ++ write_arguments es))
  write_expression (sized e n) = 4 ∷ (write_expression e ++ write_number n)
  write_expression (dropped e n) = 5 ∷ (write_expression e ++ write_number n)
  write_expression (bits e l c) = 6 ∷ (write_expression e ++ (write_number l ++ write_number c))
  write_expression (prefix op e) = 7 ∷ (prefix_code op ∷ write_expression e)
  write_expression (star place width e) =
      8 ∷ (write_option write_bytes place ++ (write_option write_number width ++ write_expression e))
  write_expression (binary op l r) = 9 ∷ (operator_code op ∷ (write_expression l ++ write_expression r))

  pub write_arguments : Expressions → List ℕ
  write_arguments no_more = []
  write_arguments (with_more e es) = write_expression e ++ write_arguments es

-- names are names, and numbers have 64 bits
abbrev mutual
  pub Leaves : Expression → Type 0
  Leaves (integer n) = n ≤ greatest
  Leaves (named w) = IsName w
  Leaves (paren e) = Leaves e
  Leaves (call w es) = IsName w × (count es ≤ greatest) × AllLeaves es
  Leaves (sized e n) = Leaves e
  Leaves (dropped e n) = Leaves e × (n ≤ greatest)
  Leaves (bits e l c) = Leaves e × (l ≤ greatest) × (c ≤ greatest)
  Leaves (prefix op e) = Leaves e
  Leaves (star place width e) = IfWritten IsName place × Leaves e
  Leaves (binary op l r) = Leaves l × Leaves r

  pub AllLeaves : Expressions → Type 0
  AllLeaves no_more = Unit {0}
  AllLeaves (with_more e es) = Leaves e × AllLeaves es

-- ---- the reader of an expression of a rank, with room for so many operators and brackets

-- where the form may be
abbrev pub fits : Kind → ℕ → ℕ → ExpressionForm → Bool
fits kind room n x.Integer = true
fits kind room n x.Name = has_names kind
fits kind room n x.Paren = nat_le 1 room
fits kind room n x.Call = is_section kind && nat_le 1 room
fits kind room n x.Sized = is_section kind
fits kind room n x.Dropped = is_section kind && nat_le 2 room
fits kind room n x.Bits = is_section kind && nat_le 1 room
fits kind room n x.Prefix = nat_le 1 room
fits kind room n x.Star = is_section kind && nat_le 1 room
fits kind room n x.Binary = nat_le 1 room && nat_le 1 n

-- what a size may follow
abbrev pub size_fits : ℕ → ExpressionForm → Bool
size_fits room x.Integer = true
size_fits room x.Name = true
size_fits room x.Paren = nat_le 1 room
size_fits room x.Call = nat_le 1 room
size_fits room form = false

-- what a count of dropped bytes may follow
abbrev pub drop_fits : ℕ → ExpressionForm → Bool
drop_fits room x.Paren = nat_le 1 room
drop_fits room x.Call = nat_le 1 room
drop_fits room form = false

-- what a range of bits may follow
abbrev pub bits_fit : ℕ → ExpressionForm → Bool
bits_fit room x.Name = true
bits_fit room x.Paren = nat_le 1 room
bits_fit room x.Call = nat_le 1 room
bits_fit room form = false

-- an operator that the kind of expression has, and that binds so tight
abbrev pub operator_fits : Kind → ℕ → BinaryOp → Bool
operator_fits kind n op = has_operator kind op && nat_le (suc (right_rank op)) n

-- whether a space's name may be written
abbrev pub space_fits : ℕ → ℕ → Bool
space_fits room b = b == 0 || (nat_le 1 room && b == 1)

abbrev pub room_after : ℕ → Expression → ℕ
room_after room e = room - weight e

-- a space's name, whose bracket needs room
unfoldable pub space_here : ℕ → Reader (Option Name)
space_here room = byte (space_fits room) >>= (λ b. if b == 0 then pure None else (name >>= (λ w. pure (Some w))))

-- a size in bytes
abbrev pub width : Reader ℕ
width = number 0 widest

module _ (kind : Kind) (inner : ℕ → ℕ → Reader Expression) where
  unfoldable pub bracketed : ℕ → Reader Expression
  bracketed room = inner (room - 1) loosest >>= (λ e. pure (paren e))

  -- one argument or more
  unfoldable pub given : ℕ → Reader (List Expression)
  given room = listed 1 greatest (λ left r. inner r loosest) room_after room

  unfoldable pub called : ℕ → Reader Expression
  called room = called_name >>= (λ w. given (room - 1) >>= (λ es. pure (call w (arguments es))))

  abbrev pub simple : ℕ → ExpressionForm → Reader Expression
  simple room x.Integer = number 0 greatest >>= (λ n. pure (integer n))
  simple room x.Name = name >>= (λ w. pure (named w))
  simple room x.Paren = bracketed room
  simple room form = called room

  -- an integer, a name, an expression in parentheses or a call
  unfoldable pub operand : (ExpressionForm → Bool) → ℕ → Reader Expression
  operand test room = coded_if test expression_forms >>= (λ form. simple room form)

  unfoldable pub sized_here : ℕ → Reader Expression
  sized_here room = operand (size_fits room) room >>= (λ e. width >>= (λ n. pure (sized e n)))

  unfoldable pub dropped_here : ℕ → Reader Expression
  dropped_here room = operand (drop_fits (room - 1)) (room - 1) >>= (λ e. number 0 greatest >>= (λ n. pure (dropped e n)))

  unfoldable pub bits_here : ℕ → Reader Expression
  bits_here room = operand (bits_fit (room - 1)) (room - 1) >>= (λ e. number 0 greatest >>= (λ l. number 0 greatest >>= (λ c. pure (bits e l c))))

  unfoldable pub prefixed : ℕ → Reader Expression
  prefixed room = coded_if (has_prefix kind) prefixes >>= (λ op. inner (room - 1) 0 >>= (λ e. pure (prefix op e)))

  unfoldable pub starred : ℕ → Reader Expression
  starred room =
      space_here (room - 1) >>= (λ place. option width >>= (λ n. inner (room - 1 - space_weight place) 0 >>= (λ e. pure (star place n e))))

  abbrev pub operands : ℕ → BinaryOp → Reader Expression
  operands room op = inner room (left_rank op) >>= (λ l. inner (room - weight l) (right_rank op) >>= (λ r. pure (binary op l r)))

  unfoldable pub joined_here : ℕ → ℕ → Reader Expression
  joined_here room n = coded_if (operator_fits kind n) operators >>= (λ op. operands (room - 1) op)

  abbrev pub form_by : ℕ → ℕ → ExpressionForm → Reader Expression
  form_by room n x.Sized = sized_here room
  form_by room n x.Dropped = dropped_here room
  form_by room n x.Bits = bits_here room
  form_by room n x.Prefix = prefixed room
  form_by room n x.Star = starred room
  form_by room n x.Binary = joined_here room n
  form_by room n form = simple room form

-- an expression with expressions inside one another fewer than `depth` times
unfoldable pub expression : Kind → ℕ → ℕ → ℕ → Reader Expression
expression kind zero room n = coded_if (λ form. false) expression_forms >>= (λ form. pure (integer 0))
expression kind (suc depth) room n =
    coded_if (fits kind room n) expression_forms >>= (λ form. form_by kind (expression kind depth) room n form)

-- an expression of a rank that has its room
pub record Fits (kind : Kind) (room n : ℕ) (e : Expression) : Type 0 where
  pub binds : Binds kind e
  pub leaves : Leaves e
  pub low : rank e ≤ n
  pub few : weight e ≤ room

-- a whole expression
abbrev pub whole_expression : Kind → Reader Expression
whole_expression kind = expression kind (suc heaviest) heaviest loosest
