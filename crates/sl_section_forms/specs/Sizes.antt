-- meaning: written sizes and counts of bits of a section or macro, a part of rule 26 (SLEIGH
-- manual, "Expressions", "Statements").
use Rattle.std.specs.Prelude.{ℕ, nat_le, ◌&&◌, Bool, true, List, Option, Some, None}
use Rattle.std.specs.List.{list_all}
use Rattle.sl_ast.specs.Trees.{Expression, Expressions, integer, named, paren, call, sized, dropped}
use Rattle.sl_ast.specs.Trees.{bits, prefix, star, binary, no_more, with_more}
use Rattle.sl_ast.specs.Trees.{Left, left_name, left_bits, left_star, Dest, direct, computed}
use Rattle.sl_ast.specs.Trees.{Target, calls, calls_computed, Exported, exports, exports_star}
use Rattle.sl_ast.specs.Trees.{Statement, local, declare, assign, goto, branch, call_to, return}
use Rattle.sl_ast.specs.Trees.{build, export, invoke, label}

-- a size that is written is at least 1
abbrev pub is_size : Option ℕ → Bool
is_size None = true
is_size (Some n) = nat_le 1 n

-- in `x[l,c]` c is 1 to 128
abbrev pub is_count : ℕ → Bool
is_count c = nat_le 1 c && nat_le c 128

-- each size in an expression is at least 1, and each count of bits is 1 to 128
abbrev mutual
  pub has_sizes : Expression → Bool
  has_sizes (integer v) = true
  has_sizes (named w) = true
  has_sizes (paren e) = has_sizes e
  has_sizes (call w es) = have_sizes es
  has_sizes (sized e n) = nat_le 1 n && has_sizes e
  has_sizes (dropped e n) = has_sizes e
  has_sizes (bits e l c) = is_count c && has_sizes e
  has_sizes (prefix op e) = has_sizes e
  has_sizes (star z n e) = is_size n && has_sizes e
  has_sizes (binary op a b) = has_sizes a && has_sizes b

  pub have_sizes : Expressions → Bool
  have_sizes no_more = true
  have_sizes (with_more e es) = has_sizes e && have_sizes es

abbrev pub value_has_sizes : Option Expression → Bool
value_has_sizes None = true
value_has_sizes (Some e) = has_sizes e

abbrev pub left_has_sizes : Left → Bool
left_has_sizes (left_name w) = true
left_has_sizes (left_bits w l c) = is_count c
left_has_sizes (left_star form p) = is_size form.size && has_sizes p

abbrev pub dest_has_sizes : Dest → Bool
dest_has_sizes (direct to) = true
dest_has_sizes (computed e) = has_sizes e

abbrev pub target_has_sizes : Target → Bool
target_has_sizes (calls o) = true
target_has_sizes (calls_computed e) = has_sizes e

abbrev pub export_has_sizes : Exported → Bool
export_has_sizes (exports w) = true
export_has_sizes (exports_star form p) = is_size form.size

abbrev pub statement_has_sizes : Statement → Bool
statement_has_sizes (local w size value) = is_size size && value_has_sizes value
statement_has_sizes (declare w n e) = nat_le 1 n && has_sizes e
statement_has_sizes (assign left e) = left_has_sizes left && has_sizes e
statement_has_sizes (goto to) = dest_has_sizes to
statement_has_sizes (branch e to) = has_sizes e
statement_has_sizes (call_to to) = target_has_sizes to
statement_has_sizes (return e) = has_sizes e
statement_has_sizes (build w) = true
statement_has_sizes (export what) = export_has_sizes what
statement_has_sizes (invoke w es) = list_all has_sizes es
statement_has_sizes (label w) = true

-- 26, of sizes and counts of bits
abbrev pub body_has_sizes : List Statement → Bool
body_has_sizes body = list_all statement_has_sizes body
