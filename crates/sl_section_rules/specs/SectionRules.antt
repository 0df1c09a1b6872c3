-- meaning: sections and macros, rules 26 to 31 (SLEIGH manual, "The Semantic Section", "P-code
-- Macros"). Each test of a statement is by the names that are known before it.
use Rattle.std.specs.Prelude.{ℕ, ◌+◌, ◌==◌, ◌&&◌, ◌||◌, Bool, true, false, not, if◌then◌else◌}
use Rattle.std.specs.Prelude.{List, [], ◌∷◌, length, Option, Some, None, is_some}
use Rattle.std.specs.List.{list_all}
use Rattle.sl_ast.specs.Trees.{Expression, Expressions, integer, named, paren, call, sized, dropped}
use Rattle.sl_ast.specs.Trees.{bits, prefix, star, binary, no_more, with_more}
use Rattle.sl_ast.specs.Trees.{Left, left_name, left_bits, left_star, Dest, direct, computed}
use Rattle.sl_ast.specs.Trees.{Operand, by_name, by_integer, Target, calls, calls_computed}
use Rattle.sl_ast.specs.Trees.{Exported, exports, exports_star, StarForm}
use Rattle.sl_ast.specs.Trees.{Statement, local, declare, assign, goto, branch, call_to, return}
use Rattle.sl_ast.specs.Trees.{build, export, invoke, label, Section, statements, unimplemented}
use Rattle.sl_ast.specs.Trees.{Macro}
use Rattle.sl_section_terms.specs.Operators.{binary_function, unary_function}
use Rattle.sl_section_terms.specs.Scopes.{userop_named}
use Rattle.sl_section_resolve.specs.Steps.{is_const}
use Rattle.sl_spec_rules.specs.Demands.{Demand}
use Rattle.sl_spec_rules.specs.Gathered.{gathered}
use Rattle.sl_spec_rules.specs.Names.{Name, are_distinct}
use Rattle.sl_section_forms.specs.Labels.{has_labels}
use Rattle.sl_section_forms.specs.Places.{exports_last, exports_nothing, is_macro_body}
use Rattle.sl_section_forms.specs.Sizes.{body_has_sizes}
use Rattle.sl_section_rules.specs.Known.{drops, reads, statement_knows}
use Rattle.sl_spec.specs.Tables as tables
use Rattle.sl_spec.specs.declared.tables.Tables.{Tables}
use Rattle.sl_section_rules.specs.Kinds.{is_handed_on, is_number, is_place, is_pointer}
use Rattle.sl_section_rules.specs.Kinds.{is_table, kind_of}
use Rattle.sl_section_rules.specs.Macros.{Signature, macro_named}
use Rattle.sl_section_rules.specs.Scopes.{macro_scope, scope_after, section_scope}
use Rattle.sl_section_rules.specs.WholeText.{Whole}
use Rattle.sl_section_rules.specs.declared.kinds.Kind.{Kind}
use Rattle.sl_section_rules.specs.declared.kinds.Kind.TheVariants as kind
use Rattle.sl_section_rules.specs.declared.scopes.Scope.{Scope}

-- whether each statement passes a test, by the names that are known before it
unfoldable pub each_holds : Tables → (Scope → Statement → Bool) → Scope → List Statement → Bool
each_holds t holds scope [] = true
each_holds t holds scope (x ∷ xs) = holds scope x && each_holds t holds (scope_after t scope x) xs

-- a function with as many arguments as it takes
abbrev pub is_function : Name → ℕ → Bool
is_function w n =
    (is_some (unary_function w) && n == 1) || (is_some (binary_function w) && n == 2)

abbrev pub count : Expressions → ℕ
count no_more = 0
count (with_more e es) = 1 + count es

module _ (t : Tables) where
  -- ---- 27

  -- a left side may be assigned; a star form names a defined space
  abbrev pub left_is_place : Scope → Left → Bool
  left_is_place scope (left_name w) = is_place (kind_of t scope w)
  left_is_place scope (left_bits w l c) = is_place (kind_of t scope w)
  left_is_place scope (left_star form p) = reads t scope.names form.space

  -- a name that may stand on the left
  abbrev pub is_left_name : Scope → Expression → Bool
  is_left_name scope (named w) = is_place (kind_of t scope w)
  is_left_name scope _ = false

  -- an argument whose parameter is assigned is a name that may stand on the left
  abbrev pub passes_place : Scope → (assigned : Bool) → Expression → Bool
  passes_place scope assigned e = not assigned || is_left_name scope e

  -- each argument, as far as there are parameters
  abbrev pub passes_places : Scope → (assigned : List Bool) → List Expression → Bool
  passes_places scope [] es = true
  passes_places scope (a ∷ as') [] = true
  passes_places scope (a ∷ as') (e ∷ es) =
      passes_place scope a e && passes_places scope as' es

  abbrev pub call_passes_places : Scope → Option Signature → List Expression → Bool
  call_passes_places scope None es = true
  call_passes_places scope (Some m) es = passes_places scope m.assigned es

  -- 27, of a statement: what it assigns, itself or through a call of an earlier macro, may be
  -- assigned
  abbrev pub assigns_places : List Signature → Scope → Statement → Bool
  assigns_places macros scope (assign left e) = left_is_place scope left
  assigns_places macros scope (invoke w es) = call_passes_places scope (macro_named w macros) es
  assigns_places macros scope _ = true

  -- ---- 29

  -- 29, of a statement: `build` names a table operand
  abbrev pub builds_table : Scope → Statement → Bool
  builds_table scope (build w) = is_table (kind_of t scope w)
  builds_table scope _ = true

  -- ---- 30

  abbrev pub pointer_kind : Scope → Operand → Kind
  pointer_kind scope (by_name w) = kind_of t scope w
  pointer_kind scope (by_integer v) = kind.Number

  -- `*[const]:n` of a number, or a place in a defined space with a written size
  abbrev pub hands_on_star : Scope → StarForm → Kind → Bool
  hands_on_star scope form k = is_some form.size && (if is_const form.space then is_number k
      else reads t scope.names form.space && is_pointer k)

  abbrev pub hands_on : Scope → Exported → Bool
  hands_on scope (exports w) = is_handed_on (kind_of t scope w)
  hands_on scope (exports_star form p) = hands_on_star scope form (pointer_kind scope p)

  -- 30, of a statement: what is exported may be handed on
  abbrev pub exports_well : Scope → Statement → Bool
  exports_well scope (export what) = hands_on scope what
  exports_well scope _ = true

  -- ---- 31

  -- a call in an expression drops bytes of a value, or names a user operation or a function
  abbrev pub is_called : Scope → Name → Expressions → Bool
  is_called scope w es = drops t scope.names w es
      || (is_some (userop_named t scope.names.reach w) || is_function w (count es))

  abbrev mutual
    pub calls_well : Scope → Expression → Bool
    calls_well scope (integer v) = true
    calls_well scope (named w) = true
    calls_well scope (paren e) = calls_well scope e
    calls_well scope (call w es) = is_called scope w es && all_call_well scope es
    calls_well scope (sized e n) = calls_well scope e
    calls_well scope (dropped e n) = calls_well scope e
    calls_well scope (bits e l c) = calls_well scope e
    calls_well scope (prefix op e) = calls_well scope e
    calls_well scope (star z n e) = calls_well scope e
    calls_well scope (binary op a b) = calls_well scope a && calls_well scope b

    pub all_call_well : Scope → Expressions → Bool
    all_call_well scope no_more = true
    all_call_well scope (with_more e es) = calls_well scope e && all_call_well scope es

  abbrev pub value_calls_well : Scope → Option Expression → Bool
  value_calls_well scope None = true
  value_calls_well scope (Some e) = calls_well scope e

  abbrev pub left_calls_well : Scope → Left → Bool
  left_calls_well scope (left_name w) = true
  left_calls_well scope (left_bits w l c) = true
  left_calls_well scope (left_star form p) = calls_well scope p

  abbrev pub dest_calls_well : Scope → Dest → Bool
  dest_calls_well scope (direct to) = true
  dest_calls_well scope (computed e) = calls_well scope e

  abbrev pub target_calls_well : Scope → Target → Bool
  target_calls_well scope (calls o) = true
  target_calls_well scope (calls_computed e) = calls_well scope e

  -- an earlier macro with as many arguments, or else a user operation
  abbrev pub is_invoked_by : Scope → Name → ℕ → Option Signature → Bool
  is_invoked_by scope w n (Some m) = length m.assigned == n
  is_invoked_by scope w n None = is_some (userop_named t scope.names.reach w)

  -- 31, of a statement: each call names what may be called, with as many arguments as it takes
  abbrev pub statement_calls_well : List Signature → Scope → Statement → Bool
  statement_calls_well macros scope (local w size value) = value_calls_well scope value
  statement_calls_well macros scope (declare w n e) = calls_well scope e
  statement_calls_well macros scope (assign left e) =
      left_calls_well scope left && calls_well scope e
  statement_calls_well macros scope (goto to) = dest_calls_well scope to
  statement_calls_well macros scope (branch e to) = calls_well scope e
  statement_calls_well macros scope (call_to to) = target_calls_well scope to
  statement_calls_well macros scope (return e) = calls_well scope e
  statement_calls_well macros scope (build w) = true
  statement_calls_well macros scope (export what) = true
  statement_calls_well macros scope (invoke w es) =
      is_invoked_by scope w (length es) (macro_named w macros)
      && list_all (calls_well scope) es
  statement_calls_well macros scope (label w) = true

-- ---- the rules

-- the name that a `build` names
abbrev pub built : Statement → List Name
built (build w) = w ∷ []
built _ = []

abbrev pub knows : Whole → Tables → Scope → Statement → Bool
knows w t scope x = statement_knows t w.context scope.names w.tables x

-- 26: each name of a section stands for something, and not for the context's register; the
-- parameters of a macro differ; a local is no operand, no parameter, no global name, and declared
-- once; a space that is read is defined; written sizes are at least 1, counts of bits 1 to 128
abbrev pub has_names : Whole → Tables → Scope → (parameters : List Name) → List Statement → Bool
has_names w t scope ps body =
    are_distinct ps && (body_has_sizes body && each_holds t (knows w t) scope body)

-- 27: what is assigned is a parameter, a local, a register, a bit range, a field attached to
-- variables, a table, or a place in a defined space; so is each argument whose parameter an earlier
-- macro assigns
abbrev pub has_places : Tables → List Signature → Scope → List Statement → Bool
has_places t macros scope body = each_holds t (assigns_places t macros) scope body

-- 29: `build` names a table operand, at most once each
abbrev pub has_builds : Tables → Scope → List Statement → Bool
has_builds t scope body =
    are_distinct (gathered built body) && each_holds t (builds_table t) scope body

-- 30: `export` stands at most once, as the last statement, and not in `instruction`; it hands on a
-- local, a register, a field attached to variables, a table, a number, or a place in memory
abbrev pub has_exports : Tables → Scope → (is_root : Bool) → List Statement → Bool
has_exports t scope is_root body =
    (exports_last body && (not is_root || exports_nothing body))
    && each_holds t (exports_well t) scope body

-- 31: a call names an earlier macro, a user operation or a function, with as many arguments; a
-- macro has no `build` and no `export`
abbrev pub has_calls : Tables → List Signature → Scope → List Statement → Bool
has_calls t macros scope body =
    (not scope.in_macro || is_macro_body body)
    && each_holds t (statement_calls_well t macros) scope body

abbrev pub body_demands : Whole → Tables → List Signature → Scope → (parameters : List Name)
    → (is_root : Bool) → List Statement → List Demand
body_demands w t macros scope ps is_root body = (26, has_names w t scope ps body)
    ∷ (27, has_places t macros scope body)
    ∷ (28, has_labels body)
    ∷ (29, has_builds t scope body)
    ∷ (30, has_exports t scope is_root body)
    ∷ (31, has_calls t macros scope body) ∷ []

-- rules 26 to 31 of a constructor's section, with what the whole text says, what is defined by now,
-- the macros before it, its operands, and whether it is one of `instruction`
abbrev pub section_demands : Whole → Tables → List Signature → List tables.Operand
    → (is_root : Bool) → Section → List Demand
section_demands w t macros os is_root (statements body) =
    body_demands w t macros (section_scope w.attached t os) [] is_root body
section_demands w t macros os is_root unimplemented = []

-- rules 26 to 31 of a macro, whose own name is defined by now
abbrev pub macro_demands : Whole → Tables → List Signature → Macro → List Demand
macro_demands w t macros m =
    body_demands w t macros (macro_scope t m.parameters) m.parameters false m.body
