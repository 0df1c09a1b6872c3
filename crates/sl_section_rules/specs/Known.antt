-- meaning: names of sections and macros, a part of rule 26 (SLEIGH manual, "The Semantic Section").
use Rattle.std.specs.Prelude.{◌&&◌, ◌||◌, Bool, true, false, not, List, [], ◌∷◌, if◌then◌else◌}
use Rattle.std.specs.Prelude.{Option, Some, None, is_some}
use Rattle.std.specs.List.{list_all}
use Rattle.std.specs.Str.{bytes_eq}
use Rattle.sl_ast.specs.Trees.{Expression, Expressions, integer, named, paren, call, sized, dropped}
use Rattle.sl_ast.specs.Trees.{bits, prefix, star, binary, no_more, with_more}
use Rattle.sl_ast.specs.Trees.{Left, left_name, left_bits, left_star, Dest, direct, computed}
use Rattle.sl_ast.specs.Trees.{Direct, to_label, to_operand, Operand, by_name, by_integer}
use Rattle.sl_ast.specs.Trees.{Target, calls, calls_computed, Exported, exports, exports_star}
use Rattle.sl_ast.specs.Trees.{Statement, local, declare, assign, goto, branch, call_to, return}
use Rattle.sl_ast.specs.Trees.{build, export, invoke, label}
use Rattle.sl_spec_actions.specs.ActionRules.{is_global}
use Rattle.sl_section_flat.specs.Sections as s
use Rattle.sl_spec.specs.Named.{has_name}
use Rattle.sl_spec.specs.Tables.{Name, Table}
use Rattle.sl_spec.specs.declared.tables.Tables.{Tables}
use Rattle.sl_section_terms.specs.Scopes.{space_named, symbol_named, with_symbol}
use Rattle.sl_section_resolve.specs.Steps.{with_own}
use Rattle.sl_section_terms.specs.Terms.{dropped_of, single_integer}
use Rattle.sl_section_terms.specs.declared.names.Names.{Names}

-- the register of the context, by its name
abbrev pub is_context : Option Name → Name → Bool
is_context None w = false
is_context (Some c) w = bytes_eq w c

-- a space that is read is defined; `const` and `unique` are no defined spaces
abbrev pub reads : Tables → Names → Option Name → Bool
reads t names None = true
reads t names (Some w) = is_some (space_named t names.reach (Some w))

-- whether `w(n)` drops bytes of what `w` stands for
abbrev pub drops : Tables → Names → Name → Expressions → Bool
drops t names w es = is_some (dropped_of (symbol_named t names w) (single_integer es))

-- a local is no operand, no parameter, no global name, and not declared before
abbrev pub is_new_local : Tables → Names → List Table → Name → Bool
is_new_local t names all w =
    not (is_global all t w) && not (has_name (λ e. e.name) w names.own)

module _ (t : Tables) (context : Option Name) (names : Names) where
  -- a name stands for something, and not for the context's register
  abbrev pub knows : Name → Bool
  knows w = is_some (symbol_named t names w) && not (is_context context w)

  abbrev mutual
    pub knows_names : Expression → Bool
    knows_names (integer v) = true
    knows_names (named w) = knows w
    knows_names (paren e) = knows_names e
    knows_names (call w es) = (not (drops t names w es) || knows w) && know_names es
    knows_names (sized e n) = knows_names e
    knows_names (dropped e n) = knows_names e
    knows_names (bits e l c) = knows_names e
    knows_names (prefix op e) = knows_names e
    knows_names (star z n e) = reads t names z && knows_names e
    knows_names (binary op a b) = knows_names a && knows_names b

    pub know_names : Expressions → Bool
    know_names no_more = true
    know_names (with_more e es) = knows_names e && know_names es

  abbrev pub value_knows : Option Expression → Bool
  value_knows None = true
  value_knows (Some e) = knows_names e

  abbrev pub place_knows : Operand → Bool
  place_knows (by_name w) = knows w
  place_knows (by_integer v) = true

  abbrev pub direct_knows : Direct → Bool
  direct_knows (to_label w) = true
  direct_knows (to_operand o) = place_knows o

  abbrev pub dest_knows : Dest → Bool
  dest_knows (direct to) = direct_knows to
  dest_knows (computed e) = knows_names e

  abbrev pub target_knows : Target → Bool
  target_knows (calls o) = place_knows o
  target_knows (calls_computed e) = knows_names e

  abbrev pub export_knows : Exported → Bool
  export_knows (exports w) = knows w
  export_knows (exports_star form p) = place_knows p

  -- an assignment to a name that stands for nothing declares a local
  abbrev pub left_knows : List Table → Left → Bool
  left_knows all (left_name w) = if is_some (symbol_named t names w)
      then not (is_context context w) else is_new_local t names all w
  left_knows all (left_bits w l c) = knows w
  left_knows all (left_star form p) = knows_names p

  -- each name of a statement is known, and a local that it declares is new
  abbrev pub statement_knows : List Table → Statement → Bool
  statement_knows all (local w size value) = value_knows value && is_new_local t names all w
  statement_knows all (declare w n e) = knows_names e && is_new_local t names all w
  statement_knows all (assign left e) = left_knows all left && knows_names e
  statement_knows all (goto to) = dest_knows to
  statement_knows all (branch e to) = knows_names e && direct_knows to
  statement_knows all (call_to to) = target_knows to
  statement_knows all (return e) = knows_names e
  statement_knows all (build w) = knows w
  statement_knows all (export what) = export_knows what
  statement_knows all (invoke w es) = list_all knows_names es
  statement_knows all (label w) = true

-- with a local of this name
abbrev pub with_new : Names → Name → Names
with_new names w = with_own names (with_symbol names.own w (s.local 0))

abbrev pub left_after : Tables → Names → Left → Names
left_after t names (left_name w) =
    if is_some (symbol_named t names w) then names else with_new names w
left_after t names (left_bits w l c) = names
left_after t names (left_star form p) = names

-- the names that are known behind a statement
abbrev pub names_after : Tables → Names → Statement → Names
names_after t names (local w size value) = with_new names w
names_after t names (declare w n e) = with_new names w
names_after t names (assign left e) = left_after t names left
names_after t names _ = names
