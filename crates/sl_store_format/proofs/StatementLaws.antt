-- Statements.
use Rattle.std.proofs.Common.{◌≡◌, ℕ, ◌≤◌, List, [], ◌∷◌, ◌++◌, Option, Ok, Err, refl, ap, sym, ◌∙◌}
use Rattle.sl_ast.specs.Operators.{in_section}
use Rattle.sl_ast.specs.Trees.{Name, Expression, Operand, by_name, by_integer, StarForm, Left, left_name, left_bits, left_star, Direct, to_label, to_operand, Dest, direct, computed, Target, calls, calls_computed, Exported, exports, exports_star, Statement, local, declare, assign, goto, branch, call_to, return, build, export, invoke, label}
use Rattle.sl_ast.specs.Validity.{heaviest, IsExpression, IsStarForm, IsLeft, IsDest, IsTarget, IsExported, IsStatement}
use Rattle.sl_store_format.specs.Expressions.{write_expression, Leaves, width}
use Rattle.sl_store_format.specs.Forms.{left_code, direct_code, target_code, statement_code}
use Rattle.sl_store_format.specs.StatementForms.{left_forms, direct_forms, target_forms, statement_forms}
use Rattle.sl_store_format.specs.Actions.{write_operand, OperandLeaves, operand_here}
use Rattle.sl_store_format.specs.Statements.{value, write_star, StarLeaves, star_form, write_left, LeftLeaves, left_by, left, write_direct, DirectLeaves, direct_by, direct_here, write_dest, DestLeaves, dest, write_target, TargetLeaves, target_by, target, write_exported, ExportedLeaves, exported, write_statement, StatementLeaves, statement_by, statement}
use Rattle.sl_store_format.specs.declared.forms.DirectForm.{DirectForm}
use Rattle.sl_store_format.specs.declared.forms.DirectForm.TheVariants as d
use Rattle.sl_store_format.specs.declared.forms.LeftForm.{LeftForm}
use Rattle.sl_store_format.specs.declared.forms.LeftForm.TheVariants as l
use Rattle.sl_store_format.specs.declared.forms.StatementForm.{StatementForm}
use Rattle.sl_store_format.specs.declared.forms.StatementForm.TheVariants as s
use Rattle.sl_store_format.specs.declared.forms.TargetForm.{TargetForm}
use Rattle.sl_store_format.specs.declared.forms.TargetForm.TheVariants as t
use Rattle.sl_store_bytes.specs.Exact.{Exact}
use Rattle.sl_store_bytes.specs.Lexemes.{write_bytes}
use Rattle.sl_store_bytes.specs.Lists.{write_option, write_separated}
use Rattle.sl_store_bytes.specs.Numbers.{write_number}
use Rattle.sl_store_bytes.proofs.Chains.{Behind, exact_from}
use Rattle.sl_store_bytes.proofs.LexemeLaws.{exact_name, exact_first_name, exact_invoked_name}
use Rattle.sl_store_bytes.proofs.PartLaws.{exact_option, either_behind, either_first, either_other}
use Rattle.sl_store_bytes.proofs.RuleLaws.{took1, took2, took3, rule1, rule2, rule3, choice, chosen}
use Rattle.sl_store_format.proofs.ExpressionLaws.{exact_whole}
use Rattle.sl_store_format.proofs.FormLaws.{left_counts, direct_counts, target_counts, statement_counts}
use Rattle.sl_store_format.proofs.Goods.{exact_any, exact_width, exact_option_halves, exact_separated_halves}
use Rattle.sl_store_format.proofs.PatternLaws.{exact_operand_here}

abbrev pub GoodValue : Expression → Type 0
GoodValue e = IsExpression heaviest in_section e × Leaves e

pub exact_value : Exact write_expression GoodValue value
exact_value = exact_whole in_section

-- ---- parts

abbrev GoodStar : StarForm → Type 0
GoodStar form = IsStarForm form × StarLeaves form

abbrev star_of : Option Name → Option ℕ → StarForm
star_of place n = record { space = place; size = n }

star_complete : (form : StarForm) (rest : List ℕ) → GoodStar form → star_form (write_star form ++ rest) ≡ Ok (form, rest)
unfolding star_form
star_complete form rest good = took2 (exact_option exact_name) (exact_option exact_width) star_of form.space form.size rest good.1 good.0

star_behind : Behind write_star GoodStar [] star_form
unfolding star_form
star_behind = rule2 (exact_option exact_name) (exact_option exact_width) star_of write_star GoodStar [] (λ place n good wide. (wide, good)) (λ place n. refl)

pub exact_star : Exact write_star GoodStar star_form
exact_star = exact_from star_behind star_complete

abbrev GoodLeft : Left → Type 0
GoodLeft to = IsLeft heaviest to × LeftLeaves to

left_behind : (form : LeftForm) → Behind write_left GoodLeft (left_code form ∷ []) (left_by form)
left_behind l.Name = rule1 exact_first_name left_name write_left GoodLeft (0 ∷ []) (λ w good. good) (λ w. refl)
left_behind l.Bits = rule3 exact_first_name exact_any exact_any left_bits write_left GoodLeft (1 ∷ []) (λ w low c good a b. (good.0, (good.1, a, b))) (λ w low c. refl)
left_behind l.Star = rule2 exact_star exact_value left_star write_left GoodLeft (2 ∷ []) (λ form e good fit. ((good.0, fit.0), (good.1, fit.1))) (λ form e. refl)

left_complete : (to : Left) (rest : List ℕ) → GoodLeft to → left (write_left to ++ rest) ≡ Ok (to, rest)
unfolding left
left_complete (left_name w) rest good = chosen left_counts l.Name left_by l.Name (write_bytes w ++ rest) ∙ took1 exact_first_name left_name w rest good
left_complete (left_bits w low c) rest good =
    chosen left_counts l.Name left_by l.Bits ((write_bytes w ++ (write_number low ++ write_number c)) ++ rest) ∙ took3 exact_first_name exact_any exact_any left_bits w low c rest (good.0, good.1.0) good.1.1 good.1.2
left_complete (left_star form e) rest good =
    chosen left_counts l.Name left_by l.Star ((write_star form ++ write_expression e) ++ rest) ∙ took2 exact_star exact_value left_star form e rest (good.0.0, good.1.0) (good.0.1, good.1.1)

exact_left : Exact write_left GoodLeft left
unfolding left
exact_left = exact_from (choice left_counts l.Name left_by write_left GoodLeft left_behind) left_complete

direct_behind : (form : DirectForm) → Behind write_direct DirectLeaves (direct_code form ∷ []) (direct_by form)
direct_behind d.Label = rule1 exact_name to_label write_direct DirectLeaves (0 ∷ []) (λ w good. good) (λ w. refl)
direct_behind d.Name = rule1 exact_name (λ w. to_operand (by_name w)) write_direct DirectLeaves (1 ∷ []) (λ w good. good) (λ w. refl)
direct_behind d.Integer = rule1 exact_any (λ n. to_operand (by_integer n)) write_direct DirectLeaves (2 ∷ []) (λ n good. good) (λ n. refl)

direct_complete : (to : Direct) (rest : List ℕ) → DirectLeaves to → direct_here (write_direct to ++ rest) ≡ Ok (to, rest)
unfolding direct_here
direct_complete (to_label w) rest good = chosen direct_counts d.Label direct_by d.Label (write_bytes w ++ rest) ∙ took1 exact_name to_label w rest good
direct_complete (to_operand (by_name w)) rest good = chosen direct_counts d.Label direct_by d.Name (write_bytes w ++ rest) ∙ took1 exact_name (λ v. to_operand (by_name v)) w rest good
direct_complete (to_operand (by_integer n)) rest good = chosen direct_counts d.Label direct_by d.Integer (write_number n ++ rest) ∙ took1 exact_any (λ k. to_operand (by_integer k)) n rest good

exact_direct : Exact write_direct DirectLeaves direct_here
unfolding direct_here
exact_direct = exact_from (choice direct_counts d.Label direct_by write_direct DirectLeaves direct_behind) direct_complete

abbrev GoodDest : Dest → Type 0
GoodDest to = IsDest heaviest to × DestLeaves to

dest_complete : (to : Dest) (rest : List ℕ) → GoodDest to → dest (write_dest to ++ rest) ≡ Ok (to, rest)
unfolding dest
dest_complete (direct to) rest good = either_first _ _ (write_direct to ++ rest) ∙ took1 exact_direct direct to rest good.1
dest_complete (computed e) rest good = either_other _ _ (write_expression e ++ rest) ∙ took1 exact_value computed e rest good

dest_behind : Behind write_dest GoodDest [] dest
unfolding dest
dest_behind = either_behind _ _ write_dest GoodDest (rule1 exact_direct direct write_dest GoodDest (0 ∷ []) (λ to good. (tt, good)) (λ to. refl))
    (rule1 exact_value computed write_dest GoodDest (1 ∷ []) (λ e good. good) (λ e. refl))

exact_dest : Exact write_dest GoodDest dest
exact_dest = exact_from dest_behind dest_complete

abbrev GoodTarget : Target → Type 0
GoodTarget to = IsTarget heaviest to × TargetLeaves to

target_behind : (form : TargetForm) → Behind write_target GoodTarget (target_code form ∷ []) (target_by form)
target_behind t.Name = rule1 exact_name (λ w. calls (by_name w)) write_target GoodTarget (0 ∷ []) (λ w good. (tt, good)) (λ w. refl)
target_behind t.Integer = rule1 exact_any (λ n. calls (by_integer n)) write_target GoodTarget (1 ∷ []) (λ n good. (tt, good)) (λ n. refl)
target_behind t.Computed = rule1 exact_value calls_computed write_target GoodTarget (2 ∷ []) (λ e good. good) (λ e. refl)

target_complete : (to : Target) (rest : List ℕ) → GoodTarget to → target (write_target to ++ rest) ≡ Ok (to, rest)
unfolding target
target_complete (calls (by_name w)) rest good = chosen target_counts t.Name target_by t.Name (write_bytes w ++ rest) ∙ took1 exact_name (λ v. calls (by_name v)) w rest good.1
target_complete (calls (by_integer n)) rest good = chosen target_counts t.Name target_by t.Integer (write_number n ++ rest) ∙ took1 exact_any (λ k. calls (by_integer k)) n rest good.1
target_complete (calls_computed e) rest good = chosen target_counts t.Name target_by t.Computed (write_expression e ++ rest) ∙ took1 exact_value calls_computed e rest good

exact_target : Exact write_target GoodTarget target
unfolding target
exact_target = exact_from (choice target_counts t.Name target_by write_target GoodTarget target_behind) target_complete

abbrev GoodExported : Exported → Type 0
GoodExported what = IsExported what × ExportedLeaves what

exported_complete : (what : Exported) (rest : List ℕ) → GoodExported what → exported (write_exported what ++ rest) ≡ Ok (what, rest)
unfolding exported
exported_complete (exports w) rest good = either_first _ _ (write_bytes w ++ rest) ∙ took1 exact_name exports w rest good.1
exported_complete (exports_star form pointer) rest good =
    either_other _ _ ((write_star form ++ write_operand pointer) ++ rest) ∙ took2 exact_star exact_operand_here exports_star form pointer rest (good.0, good.1.0) good.1.1

exported_behind : Behind write_exported GoodExported [] exported
unfolding exported
exported_behind = either_behind _ _ write_exported GoodExported (rule1 exact_name exports write_exported GoodExported (0 ∷ []) (λ w good. (tt, good)) (λ w. refl))
    (rule2 exact_star exact_operand_here exports_star write_exported GoodExported (1 ∷ []) (λ form pointer good to. (good.0, (good.1, to))) (λ form pointer. refl))

exact_exported : Exact write_exported GoodExported exported
exact_exported = exact_from exported_behind exported_complete

-- ---- statements

abbrev pub GoodStatement : Statement → Type 0
GoodStatement stmt = IsStatement heaviest stmt × StatementLeaves stmt

statement_behind : (form : StatementForm) → Behind write_statement GoodStatement (statement_code form ∷ []) (statement_by form)
statement_behind s.Local = rule3 exact_name (exact_option exact_width) (exact_option_halves exact_value) local write_statement GoodStatement (0 ∷ [])
    (λ w size e good wide fit. ((wide, fit.0), (good, fit.1))) (λ w size e. refl)
statement_behind s.Declare = rule3 exact_first_name exact_width exact_value declare write_statement GoodStatement (1 ∷ [])
    (λ w n e good wide fit. ((good.0, wide, fit.0), (good.1, fit.1))) (λ w n e. refl)
statement_behind s.Assign = rule2 exact_left exact_value assign write_statement GoodStatement (2 ∷ []) (λ to e good fit. ((good.0, fit.0), (good.1, fit.1))) (λ to e. refl)
statement_behind s.Goto = rule1 exact_dest goto write_statement GoodStatement (3 ∷ []) (λ to good. good) (λ to. refl)
statement_behind s.Branch = rule2 exact_value exact_direct branch write_statement GoodStatement (4 ∷ []) (λ e to fit good. (fit.0, (fit.1, good))) (λ e to. refl)
statement_behind s.Call = rule1 exact_target call_to write_statement GoodStatement (5 ∷ []) (λ to good. good) (λ to. refl)
statement_behind s.Return = rule1 exact_value return write_statement GoodStatement (6 ∷ []) (λ e good. good) (λ e. refl)
statement_behind s.Build = rule1 exact_name build write_statement GoodStatement (7 ∷ []) (λ w good. (tt, good)) (λ w. refl)
statement_behind s.Export = rule1 exact_exported export write_statement GoodStatement (8 ∷ []) (λ what good. good) (λ what. refl)
statement_behind s.Invoke = rule2 exact_invoked_name (exact_separated_halves exact_value) invoke write_statement GoodStatement (9 ∷ [])
    (λ w es good fit. ((good.0, good.1, fit.0), (good.2, fit.1))) (λ w es. refl)
statement_behind s.Label = rule1 exact_name label write_statement GoodStatement (10 ∷ []) (λ w good. (tt, good)) (λ w. refl)

begin : (form : StatementForm) (ys : List ℕ) → statement (statement_code form ∷ ys) ≡ statement_by form ys
unfolding statement
begin form ys = chosen statement_counts s.Local statement_by form ys

statement_complete : (stmt : Statement) (rest : List ℕ) → GoodStatement stmt → statement (write_statement stmt ++ rest) ≡ Ok (stmt, rest)
statement_complete (local w size e) rest good = begin s.Local ((write_bytes w ++ (write_option write_number size ++ write_option write_expression e)) ++ rest)
    ∙ took3 exact_name (exact_option exact_width) (exact_option_halves exact_value) local w size e rest good.1.0 good.0.0 (good.0.1, good.1.1)
statement_complete (declare w n e) rest good = begin s.Declare ((write_bytes w ++ (write_number n ++ write_expression e)) ++ rest)
    ∙ took3 exact_first_name exact_width exact_value declare w n e rest (good.0.0, good.1.0) good.0.1 (good.0.2, good.1.1)
statement_complete (assign to e) rest good = begin s.Assign ((write_left to ++ write_expression e) ++ rest) ∙ took2 exact_left exact_value assign to e rest (good.0.0, good.1.0) (good.0.1, good.1.1)
statement_complete (goto to) rest good = begin s.Goto (write_dest to ++ rest) ∙ took1 exact_dest goto to rest good
statement_complete (branch e to) rest good = begin s.Branch ((write_expression e ++ write_direct to) ++ rest) ∙ took2 exact_value exact_direct branch e to rest (good.0, good.1.0) good.1.1
statement_complete (call_to to) rest good = begin s.Call (write_target to ++ rest) ∙ took1 exact_target call_to to rest good
statement_complete (return e) rest good = begin s.Return (write_expression e ++ rest) ∙ took1 exact_value return e rest good
statement_complete (build w) rest good = begin s.Build (write_bytes w ++ rest) ∙ took1 exact_name build w rest good.1
statement_complete (export what) rest good = begin s.Export (write_exported what ++ rest) ∙ took1 exact_exported export what rest good
statement_complete (invoke w es) rest good = begin s.Invoke ((write_bytes w ++ write_separated write_expression es) ++ rest)
    ∙ took2 exact_invoked_name (exact_separated_halves exact_value) invoke w es rest (good.0.0, good.0.1, good.1.0) (good.0.2, good.1.1)
statement_complete (label w) rest good = begin s.Label (write_bytes w ++ rest) ∙ took1 exact_name label w rest good.1

statement_all : Behind write_statement GoodStatement [] statement
unfolding statement
statement_all = choice statement_counts s.Local statement_by write_statement GoodStatement statement_behind

pub exact_statement : Exact write_statement GoodStatement statement
exact_statement = exact_from statement_all statement_complete
