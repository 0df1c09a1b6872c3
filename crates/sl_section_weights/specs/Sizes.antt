-- step: how many tokens the trees of statements have, part by part.
use Rattle.std.specs.Prelude.{ℕ, ◌+◌, max, List, [], ◌∷◌, Option, Some, None}
use Rattle.sl_ast.specs.Trees.{Expression, Expressions, integer, named, paren, call, sized, dropped}
use Rattle.sl_ast.specs.Trees.{bits, prefix, star, binary, no_more, with_more}
use Rattle.sl_ast.specs.Trees.{Left, left_name, left_bits, left_star, StarForm}
use Rattle.sl_ast.specs.Trees.{Direct, to_label, to_operand, Dest, direct, computed}
use Rattle.sl_ast.specs.Trees.{Target, calls, calls_computed, Exported, exports, exports_star}
use Rattle.sl_ast.specs.Trees.{Statement, local, declare, assign, goto, branch, call_to, return}
use Rattle.sl_ast.specs.Trees.{build, export, invoke, label}
use Rattle.sl_ast.specs.Views.{arguments}

-- so many tokens where something is written
abbrev pub if_written : {A : Type 0} → ℕ → Option A → ℕ
if_written n None = 0
if_written n (Some x) = n

abbrev pub star_size : {A B : Type 0} → Option A → Option B → ℕ
star_size space size = 1 + if_written 3 space + if_written 2 size

abbrev mutual
  pub expression_size : Expression → ℕ
  expression_size (integer n) = 1
  expression_size (named w) = 1
  expression_size (paren e) = expression_size e + 2
  expression_size (call w es) = max 1 (arguments_size es) + 2
  expression_size (sized e n) = expression_size e + 2
  expression_size (dropped e n) = expression_size e + 3
  expression_size (bits e l c) = expression_size e + 5
  expression_size (prefix op e) = expression_size e + 1
  expression_size (star space size e) = expression_size e + star_size space size
  expression_size (binary op l r) = expression_size l + (expression_size r + 1)

  -- of arguments, each with a comma
  pub arguments_size : Expressions → ℕ
  arguments_size no_more = 0
  arguments_size (with_more e es) = (expression_size e + 1) + arguments_size es

abbrev pub value_size : Option Expression → ℕ
value_size None = 0
value_size (Some e) = expression_size e + 1

abbrev pub left_size : Left → ℕ
left_size (left_name w) = 1
left_size (left_bits w l c) = 6
left_size (left_star form e) = expression_size e + star_size form.space form.size

abbrev pub direct_size : Direct → ℕ
direct_size (to_label w) = 3
direct_size (to_operand to) = 1

abbrev pub dest_size : Dest → ℕ
dest_size (direct to) = direct_size to
dest_size (computed e) = expression_size e + 2

abbrev pub target_size : Target → ℕ
target_size (calls to) = 1
target_size (calls_computed e) = expression_size e + 2

abbrev pub exported_size : Exported → ℕ
exported_size (exports w) = 1
exported_size (exports_star form pointer) = 1 + star_size form.space form.size

abbrev pub statement_size : Statement → ℕ
statement_size (local w size value) = value_size value + (3 + if_written 2 size)
statement_size (declare w n e) = expression_size e + 5
statement_size (assign left e) = left_size left + (expression_size e + 2)
statement_size (goto to) = dest_size to + 2
statement_size (branch e to) = expression_size e + (3 + direct_size to)
statement_size (call_to to) = target_size to + 2
statement_size (return e) = expression_size e + 4
statement_size (build w) = 3
statement_size (export what) = exported_size what + 2
statement_size (invoke w es) = max 1 (arguments_size (arguments es)) + 3
statement_size (label w) = 3
