-- step: expressions and patterns that are read within the room that is left.
use Rattle.std.specs.Prelude.{◌≡◌, ◌-◌, ℕ, Bool, List, IfOk, Result, Ok, Err}
use Rattle.sl_ast.specs.Operators.{Kind}
use Rattle.sl_ast.specs.Trees.{Expression, integer, named, sized, dropped, bits, Pattern}
use Rattle.sl_ast.specs.Validity.{weight, pattern_weight}
use Rattle.sl_ast.specs.Views.{expression_of, pattern_of}
use Rattle.sl_ast.specs.declared.expressions.Expr.{Expr}
use Rattle.sl_ast.specs.declared.patterns.Pattern as program
use Rattle.sl_store_format.specs.Expressions.{expression, fits, form_by, simple, size_fits, drop_fits, bits_fit, width}
use Rattle.sl_store_format.specs.Forms.{pattern_forms}
use Rattle.sl_store_format.specs.StatementForms.{expression_forms}
use Rattle.sl_store_format.specs.Patterns.{pattern, pattern_by, pattern_fits}
use Rattle.sl_store_format.specs.declared.forms.ExpressionForm.{ExpressionForm}
use Rattle.sl_store_format.specs.declared.forms.ExpressionForm.TheVariants as x
use Rattle.sl_store_bytes.specs.Numbers.{number, greatest}
use Rattle.sl_store_bytes.specs.Reader.{Reader, ◌>>=◌, pure}
use Rattle.sl_store_bytes.specs.Reads.{Reads}
use Rattle.sl_store_bytes.specs.Tables.{coded_if}
use Rattle.sl_store_bytes.specs.Words.{name}
use Rattle.sl_store_bytes.specs.declared.bytes.Stop.{Stop}
use Rattle.sl_store_bytes.specs.declared.bytes.Stop.TheVariants as sv
use Rattle.sl_parse_phrases.specs.Kinds.{kind_of}
use Rattle.sl_parse_phrases.specs.declared.operators.Kind as where_it_is

-- a form of expressions, over the reader of those inside
abbrev pub Form : Type 0
Form = Kind → (ℕ → ℕ → Reader Expression) → ℕ → Reader Expression

-- an expression of the rank, by the byte of its form
abbrev pub form_of : ℕ → Form
form_of n kind inner room = coded_if (fits kind room n) expression_forms >>= (λ form. form_by kind inner room n form)

-- an integer, or a name
abbrev pub integer_here : Reader Expression
integer_here = number 0 greatest >>= (λ n. pure (integer n))

abbrev pub name_here : Reader Expression
name_here = name >>= (λ w. pure (named w))

-- what follows an operand: a size, a count of dropped bytes or a range of bits
abbrev pub sized_end : Expression → Reader Expression
sized_end e = width >>= (λ n. pure (sized e n))

abbrev pub dropped_end : Expression → Reader Expression
dropped_end e = number 0 greatest >>= (λ n. pure (dropped e n))

abbrev pub bits_end : Expression → Reader Expression
bits_end e = number 0 greatest >>= (λ l. number 0 greatest >>= (λ c. pure (bits e l c)))

abbrev pub operand_end : ExpressionForm → Expression → Reader Expression
operand_end x.Sized e = sized_end e
operand_end x.Dropped e = dropped_end e
operand_end form e = bits_end e

abbrev pub operand_room : ExpressionForm → ℕ → ℕ
operand_room x.Sized room = room
operand_room form room = room - 1

-- what it takes of the room, but the operand
abbrev pub operand_weight : ExpressionForm → ℕ
operand_weight x.Sized = 0
operand_weight form = 1

abbrev pub operand_fits : ExpressionForm → ℕ → ExpressionForm → Bool
operand_fits x.Sized room = size_fits room
operand_fits x.Dropped room = drop_fits room
operand_fits form room = bits_fit room

-- an operand with what follows it
abbrev pub followed : ExpressionForm → Form
followed form kind inner room =
    (coded_if (operand_fits form (operand_room form room)) expression_forms >>= (λ f. simple kind inner (operand_room form room) f)) >>= operand_end form

-- The tree was made, unless memory ran out.
abbrev pub Makes : Expression → Result Expr Stop → Type 0
Makes tree (Ok e) = expression_of e ≡ tree
Makes tree (Err sv.NoMemory) = Unit {0}
Makes tree (Err sv.Cut) = ⊥
Makes tree (Err (sv.Damaged n)) = ⊥

abbrev pub ReadsForm : Form → where_it_is.Kind → (depth room : ℕ) → List ℕ → Result Expr Stop → List ℕ → Type 0
ReadsForm form kind depth room bytes result left = Reads expression_of (form (kind_of kind) (expression (kind_of kind) depth) room bytes) result left

-- The expression took what it needs of the room.
abbrev pub Spends : (before after : ℕ) → Result Expr Stop → Type 0
Spends before after result = IfOk result (λ e. after ≡ before - weight (expression_of e))

-- a form of patterns, over the reader of those inside
abbrev pub PatternForm : Type 0
PatternForm = ℕ → (ℕ → ℕ → Reader Pattern) → ℕ → Reader Pattern

-- a pattern of the rank, by the byte of its form
abbrev pub pattern_form_of : ℕ → PatternForm
pattern_form_of n depth inner room = coded_if (pattern_fits room n) pattern_forms >>= (λ form. pattern_by depth inner room form)

abbrev pub ReadsPattern : PatternForm → (depth room : ℕ) → List ℕ → Result program.Pattern Stop → List ℕ → Type 0
ReadsPattern form depth room bytes result left = Reads pattern_of (form depth (pattern depth) room bytes) result left

abbrev pub SpendsPattern : (before after : ℕ) → Result program.Pattern Stop → Type 0
SpendsPattern before after result = IfOk result (λ p. after ≡ before - pattern_weight (pattern_of p))
