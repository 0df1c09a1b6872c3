-- meaning: statements as bytes, the conditions on their leaves, and their readers.
use Rattle.std.specs.Prelude.{◌≤◌, ℕ, List, [], ◌∷◌, ◌++◌}
use Rattle.sl_ast.specs.Operators.{in_section}
use Rattle.sl_ast.specs.Trees.{Name, Expression, Operand, by_name, by_integer, StarForm, Left, left_name, left_bits, left_star, Direct, to_label, to_operand, Dest, direct, computed, Target, calls, calls_computed, Exported, exports, exports_star, Statement, local, declare, assign, goto, branch, call_to, return, build, export, invoke, label}
use Rattle.sl_ast.specs.Validity.{IfWritten}
use Rattle.sl_store_format.specs.Expressions.{write_expression, Leaves, whole_expression, width}
use Rattle.sl_store_format.specs.StatementForms.{left_forms, direct_forms, target_forms, statement_forms}
use Rattle.sl_store_format.specs.Actions.{write_operand, OperandLeaves, operand_here}
use Rattle.sl_store_format.specs.declared.forms.DirectForm.{DirectForm}
use Rattle.sl_store_format.specs.declared.forms.DirectForm.TheVariants as d
use Rattle.sl_store_format.specs.declared.forms.LeftForm.{LeftForm}
use Rattle.sl_store_format.specs.declared.forms.LeftForm.TheVariants as l
use Rattle.sl_store_format.specs.declared.forms.StatementForm.{StatementForm}
use Rattle.sl_store_format.specs.declared.forms.StatementForm.TheVariants as s
use Rattle.sl_store_format.specs.declared.forms.TargetForm.{TargetForm}
use Rattle.sl_store_format.specs.declared.forms.TargetForm.TheVariants as t
use Rattle.sl_store_bytes.specs.Lexemes.{write_bytes}
use Rattle.sl_store_bytes.specs.Lists.{write_option, write_separated, option, separated, either, AreSeparated}
use Rattle.sl_store_bytes.specs.Numbers.{write_number, number, greatest}
use Rattle.sl_store_bytes.specs.Reader.{Reader, ◌>>=◌, pure}
use Rattle.sl_store_bytes.specs.Tables.{coded}
use Rattle.sl_store_bytes.specs.Words.{name, first_name, invoked_name, IsName}

-- an expression of a section
abbrev pub value : Reader Expression
value = whole_expression in_section

abbrev pub write_star : StarForm → List ℕ
write_star form = write_option write_bytes form.space ++ write_option write_number form.size

abbrev pub StarLeaves : StarForm → Type 0
StarLeaves form = IfWritten IsName form.space

unfoldable pub star_form : Reader StarForm
star_form = option name >>= (λ space. option width >>= (λ size. pure (record { space = space; size = size })))

-- ---- parts

abbrev pub write_left : Left → List ℕ
write_left (left_name w) = 0 ∷ write_bytes w
write_left (left_bits w l c) = 1 ∷ (write_bytes w ++ (write_number l ++ write_number c))
write_left (left_star form e) = 2 ∷ (write_star form ++ write_expression e)

abbrev pub LeftLeaves : Left → Type 0
LeftLeaves (left_name w) = IsName w
LeftLeaves (left_bits w l c) = IsName w × (l ≤ greatest) × (c ≤ greatest)
LeftLeaves (left_star form e) = StarLeaves form × Leaves e

abbrev pub left_by : LeftForm → Reader Left
left_by l.Name = first_name >>= (λ w. pure (left_name w))
left_by l.Bits = first_name >>= (λ w. number 0 greatest >>= (λ low. number 0 greatest >>= (λ c. pure (left_bits w low c))))
left_by l.Star = star_form >>= (λ form. value >>= (λ e. pure (left_star form e)))

unfoldable pub left : Reader Left
left = coded left_forms >>= (λ form. left_by form)

abbrev pub write_direct : Direct → List ℕ
write_direct (to_label w) = 0 ∷ write_bytes w
write_direct (to_operand (by_name w)) = 1 ∷ write_bytes w
write_direct (to_operand (by_integer n)) = 2 ∷ write_number n

abbrev pub DirectLeaves : Direct → Type 0
DirectLeaves (to_label w) = IsName w
DirectLeaves (to_operand o) = OperandLeaves o

abbrev pub direct_by : DirectForm → Reader Direct
direct_by d.Label = name >>= (λ w. pure (to_label w))
direct_by d.Name = name >>= (λ w. pure (to_operand (by_name w)))
direct_by d.Integer = number 0 greatest >>= (λ n. pure (to_operand (by_integer n)))

unfoldable pub direct_here : Reader Direct
direct_here = coded direct_forms >>= (λ form. direct_by form)

abbrev pub write_dest : Dest → List ℕ
write_dest (direct to) = 0 ∷ write_direct to
write_dest (computed e) = 1 ∷ write_expression e

abbrev pub DestLeaves : Dest → Type 0
DestLeaves (direct to) = DirectLeaves to
DestLeaves (computed e) = Leaves e

unfoldable pub dest : Reader Dest
dest = either (direct_here >>= (λ to. pure (direct to))) (value >>= (λ e. pure (computed e)))

abbrev pub write_target : Target → List ℕ
write_target (calls (by_name w)) = 0 ∷ write_bytes w
write_target (calls (by_integer n)) = 1 ∷ write_number n
write_target (calls_computed e) = 2 ∷ write_expression e

abbrev pub TargetLeaves : Target → Type 0
TargetLeaves (calls o) = OperandLeaves o
TargetLeaves (calls_computed e) = Leaves e

abbrev pub target_by : TargetForm → Reader Target
target_by t.Name = name >>= (λ w. pure (calls (by_name w)))
target_by t.Integer = number 0 greatest >>= (λ n. pure (calls (by_integer n)))
target_by t.Computed = value >>= (λ e. pure (calls_computed e))

unfoldable pub target : Reader Target
target = coded target_forms >>= (λ form. target_by form)

abbrev pub write_exported : Exported → List ℕ
write_exported (exports w) = 0 ∷ write_bytes w
write_exported (exports_star form pointer) = 1 ∷ (write_star form ++ write_operand pointer)

abbrev pub ExportedLeaves : Exported → Type 0
ExportedLeaves (exports w) = IsName w
ExportedLeaves (exports_star form pointer) = StarLeaves form × OperandLeaves pointer

unfoldable pub exported : Reader Exported
exported = either (name >>= (λ w. pure (exports w))) (star_form >>= (λ form. operand_here >>= (λ pointer. pure (exports_star form pointer))))

-- ---- statements

abbrev pub write_statement : Statement → List ℕ
write_statement (local w size e) = 0 ∷ (write_bytes w ++ (write_option write_number size ++ write_option write_expression e))
write_statement (declare w n e) = 1 ∷ (write_bytes w ++ (write_number n ++ write_expression e))
write_statement (assign to e) = 2 ∷ (write_left to ++ write_expression e)
write_statement (goto to) = 3 ∷ write_dest to
write_statement (branch e to) = 4 ∷ (write_expression e ++ write_direct to)
write_statement (call_to to) = 5 ∷ write_target to
write_statement (return e) = 6 ∷ write_expression e
write_statement (build w) = 7 ∷ write_bytes w
write_statement (export what) = 8 ∷ write_exported what
write_statement (invoke w es) = 9 ∷ (write_bytes w ++ write_separated write_expression es)
write_statement (label w) = 10 ∷ write_bytes w

abbrev pub StatementLeaves : Statement → Type 0
StatementLeaves (local w size e) = IsName w × IfWritten Leaves e
StatementLeaves (declare w n e) = IsName w × Leaves e
StatementLeaves (assign to e) = LeftLeaves to × Leaves e
StatementLeaves (goto to) = DestLeaves to
StatementLeaves (branch e to) = Leaves e × DirectLeaves to
StatementLeaves (call_to to) = TargetLeaves to
StatementLeaves (return e) = Leaves e
StatementLeaves (build w) = IsName w
StatementLeaves (export what) = ExportedLeaves what
StatementLeaves (invoke w es) = IsName w × AreSeparated Leaves es
StatementLeaves (label w) = IsName w

abbrev pub statement_by : StatementForm → Reader Statement
statement_by s.Local = name >>= (λ w. option width >>= (λ size. option value >>= (λ e. pure (local w size e))))
statement_by s.Declare = first_name >>= (λ w. width >>= (λ n. value >>= (λ e. pure (declare w n e))))
statement_by s.Assign = left >>= (λ to. value >>= (λ e. pure (assign to e)))
statement_by s.Goto = dest >>= (λ to. pure (goto to))
statement_by s.Branch = value >>= (λ e. direct_here >>= (λ to. pure (branch e to)))
statement_by s.Call = target >>= (λ to. pure (call_to to))
statement_by s.Return = value >>= (λ e. pure (return e))
statement_by s.Build = name >>= (λ w. pure (build w))
statement_by s.Export = exported >>= (λ what. pure (export what))
statement_by s.Invoke = invoked_name >>= (λ w. separated value >>= (λ es. pure (invoke w es)))
statement_by s.Label = name >>= (λ w. pure (label w))

unfoldable pub statement : Reader Statement
statement = coded statement_forms >>= (λ form. statement_by form)
