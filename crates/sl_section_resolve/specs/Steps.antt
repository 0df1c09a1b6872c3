-- meaning: statements with their names taken out, and with each call of a macro taken out (SLEIGH
-- manual, "The Semantic Section", "Statements", "P-code Macros").
use Rattle.std.specs.Prelude.{ℕ, zero, suc, ◌+◌, ◌==◌, ◌&&◌, codes, Bool, true, false, not}
use Rattle.std.specs.Prelude.{List, [], ◌∷◌, ◌++◌, fold, length, slice_get, if◌then◌else◌}
use Rattle.std.specs.Prelude.{Option, Some, None, map, option_map, unwrap_or}
use Rattle.std.specs.Str.{bytes_eq}
use Rattle.sl_ast.specs.Trees.{Expression, integer, named}
use Rattle.sl_ast.specs.Trees.{Left, left_name, left_bits, left_star, StarForm}
use Rattle.sl_ast.specs.Trees.{Operand, by_name, by_integer, Direct, to_label, to_operand}
use Rattle.sl_ast.specs.Trees.{Dest, direct, computed, Target, calls, calls_computed}
use Rattle.sl_ast.specs.Trees.{Exported, exports, exports_star, Statement, local, declare, assign}
use Rattle.sl_ast.specs.Trees.{goto, branch, call_to, return, build, export, invoke, label}
use Rattle.sl_ast.specs.Views.{arguments}
use Rattle.sl_spec_rules.specs.Names.{is_among}
use Rattle.sl_section_flat.specs.Sections as s
use Rattle.sl_section_flat.specs.Sections.{Step, Symbol, Term, bounded, span_count}
use Rattle.sl_spec.specs.Named.{index_named}
use Rattle.sl_spec.specs.Tables as tables
use Rattle.sl_spec.specs.Tables.{Name}
use Rattle.sl_spec.specs.declared.constructors.Means.{Means}
use Rattle.sl_spec.specs.declared.constructors.Means.TheVariants as means
use Rattle.sl_spec.specs.declared.tables.Tables.{Tables}
use Rattle.sl_section_terms.specs.Entries.{Entry}
use Rattle.sl_section_resolve.specs.Macros.{Body}
use Rattle.sl_section_terms.specs.Scopes.{known_symbol, space_named, symbol_named, userop_named}
use Rattle.sl_section_terms.specs.Scopes.{with_operands, with_symbol}
use Rattle.sl_section_terms.specs.Terms.{term_at, terms_at, variables, variables_in}
use Rattle.sl_section_terms.specs.declared.names.Names.{Names}
use Rattle.sl_section_terms.specs.declared.reach.Reach.{Reach}
use Rattle.sl_section_resolve.specs.declared.state.State.{State}

-- ---- where a section is read: the names that are known, the next size variable, and the next
-- number of a macro's call

-- behind n more size variables
abbrev pub moved : ℕ → State → State
moved n st = record st { next = st.next + n }

abbrev pub with_own : Names → List Entry → Names
with_own names own = record names { own = own }

-- the next size variable is a local of this name
abbrev pub with_local : Name → State → State
with_local w st = record st {
  names = with_own st.names (with_symbol st.names.own w (s.local st.next));
  next = st.next + 1;
}

-- ---- statements

abbrev pub label_here : State → Name → s.Label
label_here st w = record { call = st.names.here; name = w }

-- a written size; 1 where none is written, where the rules want one
abbrev pub size_or_1 : Option ℕ → ℕ
size_or_1 n = bounded (unwrap_or n 1)

abbrev pub value_variables : Option Expression → ℕ
value_variables None = 0
value_variables (Some e) = variables e

abbrev pub local_after : Name → State → Option Expression → State
local_after w st value = moved (value_variables value) (with_local w st)

abbrev pub assign_after : Name → State → Option Symbol → Expression → State
assign_after w st None e = local_after w st (Some e)
assign_after w st (Some a) e = moved (variables e) st

abbrev pub goto_variables : Dest → ℕ
goto_variables (direct to) = 0
goto_variables (computed e) = variables e

abbrev pub call_variables : Target → ℕ
call_variables (calls o) = 0
call_variables (calls_computed e) = variables e

abbrev pub build_steps : Symbol → List Step
build_steps (s.table i) = s.build i ∷ []
build_steps _ = []

-- `const` is the space of numbers
abbrev pub is_const : Option Name → Bool
is_const None = false
is_const (Some w) = bytes_eq w (codes "const")

abbrev pub export_variables : Exported → ℕ
export_variables (exports w) = 1
export_variables (exports_star form p) = 2

-- What a call does: its steps, and where reading goes on behind it.
pub record Calls : Type 0 where
  pub taken : Name → List Expression → State → List Step
  pub after : Name → List Expression → State → State

-- a call of a user operation; rule 31 excludes other names
abbrev pub userop_steps : Option ℕ → List Term → List Step
userop_steps None ts = []
userop_steps (Some u) ts = s.run_user u ts ∷ []

abbrev pub argument_variables : Expression → ℕ
argument_variables (named w) = 0
argument_variables (integer v) = 0
argument_variables e = variables e + 1

abbrev pub given_variables : List Expression → ℕ
given_variables [] = 0
given_variables (e ∷ es) = argument_variables e + given_variables es

abbrev pub macro_name : Body → Name
macro_name m = m.of.name

abbrev pub parameters_of : Body → List Name
parameters_of m = m.of.parameters

abbrev pub body_of : Body → List Statement
body_of m = m.of.body

-- the caller goes on with its own names
abbrev pub returned : State → State → State
returned st inner = record inner { names = st.names }

abbrev pub is_number : ℕ → Option ℕ → Bool
is_number n None = false
is_number n (Some i) = i == n

abbrev pub with_name : List Name → Name → List Name
with_name names w = if is_among names w then names else names ++ w ∷ []

-- the names that are built, each once
abbrev pub with_built : List Name → Statement → List Name
with_built names (build w) = with_name names w
with_built names _ = names

abbrev pub is_table : Means → Bool
is_table (means.Table table) = true
is_table _ = false

abbrev pub unplaced_one : List Name → (i : ℕ) → tables.Operand → List Step
unplaced_one names i o =
    if is_table o.means && not (is_among names o.name) then s.build i ∷ [] else []

-- the sections of tables that no `build` places run first, in the order of the operands
abbrev pub unplaced : List Name → (i : ℕ) → List tables.Operand → List Step
unplaced names i [] = []
unplaced names i (o ∷ os) = unplaced_one names i o ++ unplaced names (i + 1) os

module _ (t : Tables) where
  abbrev pub term_here : State → Expression → Term
  term_here st e = term_at t st.names st.next e

  abbrev pub symbol_here : State → Name → Symbol
  symbol_here st w = known_symbol t st.names w

  abbrev pub space_here : State → Option Name → Option ℕ
  space_here st z = space_named t st.names.reach z

  -- a new local with its value, which doesn't know it yet
  abbrev pub local_steps : State → Option ℕ → Option Expression → List Step
  local_steps st size None = s.declare st.next size ∷ []
  local_steps st size (Some e) = s.declare st.next size
      ∷ s.set (s.local st.next) (term_at t st.names (st.next + 1) e) ∷ []

  -- an assignment to a name declares a local where the name stands for nothing
  abbrev pub assign_steps : State → Option Symbol → Expression → List Step
  assign_steps st None e = local_steps st None (Some e)
  assign_steps st (Some a) e = s.set a (term_here st e) ∷ []

  -- the pointer, what is stored, and the value are numbered in this order
  abbrev pub store_step : State → StarForm → Expression → Expression → Step
  store_step st form p e =
      s.store (space_here st form.space) (option_map bounded form.size) (term_here st p)
      (st.next + variables p) (term_at t st.names (st.next + variables p + 1) e)

  abbrev pub left_steps : State → Left → Expression → List Step
  left_steps st (left_name w) e = assign_steps st (symbol_named t st.names w) e
  left_steps st (left_bits w l c) e =
      s.set_bits (symbol_here st w) l (span_count c) (term_here st e) ∷ []
  left_steps st (left_star form p) e = store_step st form p e ∷ []

  abbrev pub left_after : State → Left → Expression → State
  left_after st (left_name w) e = assign_after w st (symbol_named t st.names w) e
  left_after st (left_bits w l c) e = moved (variables e) st
  left_after st (left_star form p) e = moved (variables p + 1 + variables e) st

  -- a name or an integer as a target
  abbrev pub place_of : State → Operand → Symbol
  place_of st (by_name w) = symbol_here st w
  place_of st (by_integer v) = s.integer v

  abbrev pub direct_of : State → Direct → s.Direct
  direct_of st (to_label w) = s.to_label (label_here st w)
  direct_of st (to_operand o) = s.to_place (place_of st o)

  abbrev pub goto_step : State → Dest → Step
  goto_step st (direct to) = s.branch (direct_of st to)
  goto_step st (computed e) = s.branch_to (term_here st e)

  abbrev pub call_step : State → Target → Step
  call_step st (calls o) = s.call (place_of st o)
  call_step st (calls_computed e) = s.call_to (term_here st e)

  -- ---- exports: the pointer is numbered before the whole

  abbrev pub pointer_term : State → Operand → Term
  pointer_term st (by_name w) = s.name (symbol_here st w) st.next
  pointer_term st (by_integer v) = s.number v st.next

  abbrev pub exported : State → Exported → s.Export
  exported st (exports w) = s.exports (symbol_here st w) st.next
  exported st (exports_star form p) = if is_const form.space
      then s.exports_constant (size_or_1 form.size) (pointer_term st p) (st.next + 1)
      else s.exports_memory (space_here st form.space) (size_or_1 form.size) (pointer_term st p)
      (st.next + 1)

  -- ---- calls of macros and of user operations

  abbrev pub userop_calls : Calls
  userop_calls = record {
    taken = λ w es st. userop_steps (userop_named t st.names.reach w)
        (terms_at t st.names st.next (arguments es));
    after = λ w es st. moved (variables_in (arguments es)) st;
  }

  -- ---- each statement: its steps, and where reading goes on behind it

  abbrev pub taken : Calls → State → Statement → List Step
  taken c st (local w size value) = local_steps st (option_map bounded size) value
  taken c st (declare w n e) = local_steps st (Some (bounded n)) (Some e)
  taken c st (assign left e) = left_steps st left e
  taken c st (goto to) = goto_step st to ∷ []
  taken c st (branch e to) = s.branch_if (term_here st e) (direct_of st to) ∷ []
  taken c st (call_to to) = call_step st to ∷ []
  taken c st (return e) = s.return (term_here st e) ∷ []
  taken c st (build w) = build_steps (symbol_here st w)
  taken c st (export what) = s.export (exported st what) ∷ []
  taken c st (invoke w es) = c.taken w es st
  taken c st (label w) = s.label (label_here st w) ∷ []

  abbrev pub after : Calls → State → Statement → State
  after c st (local w size value) = local_after w st value
  after c st (declare w n e) = local_after w st (Some e)
  after c st (assign left e) = left_after st left e
  after c st (goto to) = moved (goto_variables to) st
  after c st (branch e to) = moved (variables e) st
  after c st (call_to to) = moved (call_variables to) st
  after c st (return e) = moved (variables e) st
  after c st (build w) = st
  after c st (export what) = moved (export_variables what) st
  after c st (invoke w es) = c.after w es st
  after c st (label w) = st

  abbrev pub all_taken : Calls → State → List Statement → List Step
  all_taken c st [] = []
  all_taken c st (x ∷ xs) = taken c st x ++ all_taken c (after c st x) xs

  abbrev pub all_after : Calls → State → List Statement → State
  all_after c st [] = st
  all_after c st (x ∷ xs) = all_after c (after c st x) xs

  -- ---- what a parameter stands for: what the name of the argument does, the integer, or a local
  -- of the call that gets the value before the macro's statements

  abbrev pub argument : Names → (i : ℕ) → Expression → Symbol
  argument names i (named w) = known_symbol t names w
  argument names i (integer v) = s.integer v
  argument names i _ = s.local i

  abbrev pub evaluated_steps : Names → (i : ℕ) → Expression → List Step
  evaluated_steps names i e =
      s.declare i None ∷ s.set (s.local i) (term_at t names (i + 1) e) ∷ []

  abbrev pub argument_steps : Names → (i : ℕ) → Expression → List Step
  argument_steps names i (named w) = []
  argument_steps names i (integer v) = []
  argument_steps names i e = evaluated_steps names i e

  -- the parameters by their names
  abbrev pub parameters : Names → (i : ℕ) → List Entry → List Name → List Expression → List Entry
  parameters names i own [] es = own
  parameters names i own (p ∷ ps) [] = own
  parameters names i own (p ∷ ps) (e ∷ es) =
      parameters names (i + argument_variables e) (with_symbol own p (argument names i e)) ps es

  abbrev pub given : Names → (i : ℕ) → List Expression → List Step
  given names i [] = []
  given names i (e ∷ es) =
      argument_steps names i e ++ given names (i + argument_variables e) es

  -- ---- macros

  -- A macro's statements begin with the parameters as the only names of their own, with what is
  -- defined before the macro, and under a number of their own.
  abbrev pub entered : State → Body → List Expression → State
  entered st m es = record {
    names = record {
      own = parameters st.names st.next [] (parameters_of m) es;
      reach = m.reach;
      here = st.calls;
    };
    next = st.next + given_variables es;
    calls = st.calls + 1;
  }

  -- a call of this macro, whose statements know these calls
  abbrev pub macro_calls : Calls → Body → Calls
  macro_calls earlier m = record {
    taken = λ w es st.
        given st.names st.next es ++ all_taken earlier (entered st m es) (body_of m);
    after = λ w es st. returned st (all_after earlier (entered st m es) (body_of m));
  }

  -- where a section begins: with the names of its operands; it is call 0
  abbrev pub opening : Reach → List tables.Operand → State
  opening reach os = record {
    names = record { own = with_operands t [] 0 os; reach = reach; here = 0 };
    next = 0;
    calls = 1;
  }

  module _ (macros : List Body) where
    -- whether a call with these arguments is one of this macro, whose number is n
    abbrev pub is_call_of : ℕ → Body → Name → List Expression → Bool
    is_call_of n m w es = is_number n (index_named macro_name w macros)
        && (length (parameters_of m) == length es)

    abbrev pub with_macro : ℕ → Option Body → Calls → Calls
    with_macro n None earlier = earlier
    with_macro n (Some m) earlier = record {
      taken = λ w es st. if is_call_of n m w es then (macro_calls earlier m).taken w es st
          else earlier.taken w es st;
      after = λ w es st. if is_call_of n m w es then (macro_calls earlier m).after w es st
          else earlier.after w es st;
    }

    -- calls where the first n macros are known; each macro knows those before it
    abbrev pub calls_of : ℕ → Calls
    calls_of zero = userop_calls
    calls_of (suc n) = with_macro n (slice_get macros n) (calls_of n)

    -- ---- sections

    -- the statements of a section, by what is defined before its constructor, and the operands
    abbrev pub section_steps : Reach → List tables.Operand → List Statement → List Step
    section_steps reach os body = unplaced (fold with_built [] body) 0 os
        ++ all_taken (calls_of reach.macros) (opening reach os) body

    -- how many size variables they have
    abbrev pub section_variables : Reach → List tables.Operand → List Statement → ℕ
    section_variables reach os body =
        (all_after (calls_of reach.macros) (opening reach os) body).next
