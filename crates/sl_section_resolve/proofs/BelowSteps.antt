-- Each size variable of the steps of a section is below the number of its size variables.
use Rattle.std.proofs.Common.{◌≡◌, ℕ, zero, suc, ◌+◌, ◌≤◌, ◌&&◌, Bool, true, false, not, List, [], ◌∷◌, Option, Some, None, option_map, fold, slice_get, subst, arith, if◌then◌else◌}
use Rattle.sl_ast.specs.Trees.{Expression, integer, named, paren, call, sized, dropped, bits, prefix, star, binary, Left, left_name, left_bits, left_star, Operand, by_name, by_integer, Direct, to_label, to_operand, Dest, direct, computed, Target, calls, calls_computed, Exported, exports, exports_star, Statement, local, declare, assign, goto, branch, call_to, return, build, export, invoke, label}
use Rattle.sl_ast.specs.Views.{arguments}
use Rattle.sl_spec_rules.specs.Names.{is_among}
use Rattle.sl_section_flat.specs.Sections as s
use Rattle.sl_section_flat.specs.Sections.{Symbol, Term, Step, bounded, span_count}
use Rattle.sl_section_flat.specs.Numbered.{SymbolBelow, TermBelow, AllBelow, DirectBelow, ExportBelow, StepsBelow}
use Rattle.sl_spec.specs.Tables as tables
use Rattle.sl_spec.specs.Tables.{Name}
use Rattle.sl_spec.specs.declared.constructors.Means.{Means}
use Rattle.sl_spec.specs.declared.constructors.Means.TheVariants as means
use Rattle.sl_spec.specs.declared.tables.Tables.{Tables}
use Rattle.sl_section_terms.specs.Entries.{Entry}
use Rattle.sl_section_terms.specs.Scopes.{attached_size, field_symbol, known_symbol, operand_symbol, symbol_named, userop_named, with_operands, with_symbol}
use Rattle.sl_section_resolve.specs.Steps.{Calls, after, all_after, all_taken, argument, argument_steps, argument_variables, assign_after, assign_steps, body_of, build_steps, call_step, call_variables, calls_of, direct_of, entered, evaluated_steps, export_variables, exported, given, given_variables, goto_step, goto_variables, is_call_of, is_const, is_table, left_after, left_steps, local_after, local_steps, macro_calls, moved, opening, parameters, parameters_of, place_of, pointer_term, section_steps, section_variables, taken, term_here, unplaced, unplaced_one, userop_calls, userop_steps, with_built, with_macro}
use Rattle.sl_section_terms.specs.Terms.{term_at, terms_at, variables, variables_in}
use Rattle.sl_section_resolve.specs.Macros.{Body}
use Rattle.sl_section_terms.specs.declared.reach.Reach.{Reach}
use Rattle.sl_section_resolve.specs.declared.state.State.{State}
use Rattle.sl_section_terms.proofs.Below.{EntriesBelow, OptBelow, direct_up, entries_up, known_below, steps_both, steps_up, symbol_below, symbol_up, term_below, term_up, terms_below, with_symbol_below}

-- the own names of a state are below the next size variable
abbrev pub IsBelow : State → Type 0
IsBelow st = EntriesBelow st.next st.names.own

-- what is read behind a part is as far or farther, and all before is below it
pub record Kept (st st' : State) (ss : List Step) : Type 0 where
  pub below : StepsBelow st'.next ss
  pub own : IsBelow st'
  pub up : st.next ≤ st'.next

moved_kept : (st : State) (k : ℕ) (ss : List Step) → IsBelow st → StepsBelow (st.next + k) ss → Kept st (moved k st) ss
moved_kept st k ss o h = record { below = h; own = entries_up st.next (st.next + k) st.names.own (omega arith) o; up = omega arith }

same_kept : (st : State) (ss : List Step) → IsBelow st → StepsBelow st.next ss → Kept st st ss
same_kept st ss o h = record { below = h; own = o; up = omega arith }

build_below : (n : ℕ) (a : Symbol) → StepsBelow n (build_steps a)
build_below n (s.table i) = (tt, tt)
build_below n (s.local x) = tt
build_below n (s.register p o k) = tt
build_below n (s.bit_range p o k l c) = tt
build_below n (s.attached i k) = tt
build_below n (s.value i) = tt
build_below n s.start = tt
build_below n s.next = tt
build_below n (s.integer v) = tt

userop_below : (n : ℕ) (o : Option ℕ) (ts : List Term) → AllBelow n ts → StepsBelow n (userop_steps o ts)
userop_below n None ts h = tt
userop_below n (Some u) ts h = (h, tt)

export_if : (n : ℕ) (b : Bool) (x y : s.Export) → ExportBelow n x → ExportBelow n y → ExportBelow n (if b then x else y)
export_if n true x y h k = h
export_if n false x y h k = k

module _ (t : Tables) where
  term_kept : (st : State) (e : Expression) → IsBelow st → TermBelow (st.next + variables e) (term_here t st e)
  term_kept st e o = term_below t st.names e st.next o

  -- an expression k size variables on
  term_after : (st : State) (k n : ℕ) (e : Expression) → st.next + k + variables e ≤ n → IsBelow st → TermBelow n (term_at t st.names (st.next + k) e)
  term_after st k n e le o =
      term_up (st.next + k + variables e) n (term_at t st.names (st.next + k) e) le (term_below t st.names e (st.next + k) (entries_up st.next (st.next + k) st.names.own (omega arith) o))

  local_kept : (st : State) (w : Name) (size : Option ℕ) (value : Option Expression) → IsBelow st → Kept st (local_after w st value) (local_steps t st size value)
  local_kept st w size None o = record {
    below = (omega arith, tt);
    own = with_symbol_below (st.next + 1 + 0) st.names.own w (s.local st.next) (entries_up st.next (st.next + 1 + 0) st.names.own (omega arith) o) (omega arith);
    up = omega arith;
  }
  local_kept st w size (Some e) o =
      let n = st.next + 1 + variables e in
      record {
        below = (omega arith, ((omega arith, term_after st 1 n e (omega arith) o), tt));
        own = with_symbol_below n st.names.own w (s.local st.next) (entries_up st.next n st.names.own (omega arith) o) (omega arith);
        up = omega arith;
      }

  assign_kept : (st : State) (w : Name) (a : Option Symbol) (e : Expression) → OptBelow st.next a → IsBelow st → Kept st (assign_after w st a e) (assign_steps t st a e)
  assign_kept st w None e h o = local_kept st w None (Some e) o
  assign_kept st w (Some a) e h o =
      moved_kept st (variables e) _ o ((symbol_up st.next (st.next + variables e) a (omega arith) h, term_kept st e o), tt)

  left_kept : (st : State) (left : Left) (e : Expression) → IsBelow st → Kept st (left_after t st left e) (left_steps t st left e)
  left_kept st (left_name w) e o = assign_kept st w (symbol_named t st.names w) e (symbol_below t st.names st.next w o) o
  left_kept st (left_bits w l c) e o =
      moved_kept st (variables e) _ o ((symbol_up st.next (st.next + variables e) (known_symbol t st.names w) (omega arith) (known_below t st.names st.next w o), term_kept st e o), tt)
  left_kept st (left_star form p) e o =
      let n = st.next + (variables p + 1 + variables e) in
      let at : st.next + (variables p + 1) ≡ st.next + variables p + 1 = omega arith in
      let value : TermBelow n (term_at t st.names (st.next + variables p + 1) e) = subst (λ i. TermBelow n (term_at t st.names i e)) at (term_after st (variables p + 1) n e (omega arith) o) in
      moved_kept st (variables p + 1 + variables e) _ o
      (((term_up (st.next + variables p) n (term_here t st p) (omega arith) (term_kept st p o), value), omega arith), tt)

  place_below : (st : State) (p : Operand) → IsBelow st → SymbolBelow st.next (place_of t st p)
  place_below st (by_name w) o = known_below t st.names st.next w o
  place_below st (by_integer v) o = tt

  direct_below : (st : State) (to : Direct) → IsBelow st → DirectBelow st.next (direct_of t st to)
  direct_below st (to_label w) o = tt
  direct_below st (to_operand p) o = place_below st p o

  goto_kept : (st : State) (to : Dest) → IsBelow st → Kept st (moved (goto_variables to) st) (goto_step t st to ∷ [])
  goto_kept st (direct to) o = moved_kept st 0 _ o (direct_up st.next (st.next + 0) (direct_of t st to) (omega arith) (direct_below st to o), tt)
  goto_kept st (computed e) o = moved_kept st (variables e) _ o (term_kept st e o, tt)

  call_kept : (st : State) (to : Target) → IsBelow st → Kept st (moved (call_variables to) st) (call_step t st to ∷ [])
  call_kept st (calls p) o = moved_kept st 0 _ o (symbol_up st.next (st.next + 0) (place_of t st p) (omega arith) (place_below st p o), tt)
  call_kept st (calls_computed e) o = moved_kept st (variables e) _ o (term_kept st e o, tt)

  pointer_below : (st : State) (p : Operand) → IsBelow st → TermBelow (st.next + 2) (pointer_term t st p)
  pointer_below st (by_name w) o = (symbol_up st.next (st.next + 2) (known_symbol t st.names w) (omega arith) (known_below t st.names st.next w o), omega arith)
  pointer_below st (by_integer v) o = omega arith

  export_below : (st : State) (what : Exported) → IsBelow st → ExportBelow (st.next + export_variables what) (exported t st what)
  export_below st (exports w) o = (symbol_up st.next (st.next + 1) (known_symbol t st.names w) (omega arith) (known_below t st.names st.next w o), omega arith)
  export_below st (exports_star form p) o = export_if (st.next + 2) (is_const form.space) _ _ (pointer_below st p o, omega arith) (pointer_below st p o, omega arith)

  -- what is known of calls
  pub record CallsKept (c : Calls) : Type 0 where
    pub at : (w : Name) (es : List Expression) (st : State) → IsBelow st → Kept st (c.after w es st) (c.taken w es st)

  userops_kept : CallsKept (userop_calls t)
  userops_kept = record {
    at = λ w es st o. moved_kept st (variables_in (arguments es)) _ o
        (userop_below (st.next + variables_in (arguments es)) (userop_named t st.names.reach w) (terms_at t st.names st.next (arguments es)) (terms_below t st.names (arguments es) st.next o));
  }

  taken_kept : (c : Calls) → CallsKept c → (st : State) (x : Statement) → IsBelow st → Kept st (after t c st x) (taken t c st x)
  taken_kept c h st (local w size value) o = local_kept st w (option_map bounded size) value o
  taken_kept c h st (declare w k e) o = local_kept st w (Some (bounded k)) (Some e) o
  taken_kept c h st (assign left e) o = left_kept st left e o
  taken_kept c h st (goto to) o = goto_kept st to o
  taken_kept c h st (branch e to) o =
      moved_kept st (variables e) _ o ((term_kept st e o, direct_up st.next (st.next + variables e) (direct_of t st to) (omega arith) (direct_below st to o)), tt)
  taken_kept c h st (call_to to) o = call_kept st to o
  taken_kept c h st (return e) o = moved_kept st (variables e) _ o (term_kept st e o, tt)
  taken_kept c h st (build w) o = same_kept st _ o (build_below st.next (known_symbol t st.names w))
  taken_kept c h st (export what) o = moved_kept st (export_variables what) _ o (export_below st what o, tt)
  taken_kept c h st (invoke w es) o = h.at w es st o
  taken_kept c h st (label w) o = same_kept st _ o (tt, tt)

  pub all_kept : (c : Calls) → CallsKept c → (st : State) (xs : List Statement) → IsBelow st → Kept st (all_after t c st xs) (all_taken t c st xs)
  all_kept c h st [] o = same_kept st [] o tt
  all_kept c h st (x ∷ xs) o =
      let one = taken_kept c h st x o in
      let st' = after t c st x in
      let rest = all_kept c h st' xs one.own in
      let last = all_after t c st' xs in
      record {
        below = steps_both last.next (taken t c st x) (all_taken t c st' xs) (steps_up st'.next last.next (taken t c st x) rest.up one.below) rest.below;
        own = rest.own;
        up = omega (arith, one.up, rest.up);
      }

  -- ---- macros

  evaluated_below : (st : State) (i : ℕ) (e : Expression) → st.next ≤ i → IsBelow st → SymbolBelow (i + (variables e + 1)) (s.local i) × StepsBelow (i + (variables e + 1)) (evaluated_steps t st.names i e)
  evaluated_below st i e le o =
      let n = i + (variables e + 1) in
      let value = term_up (i + 1 + variables e) n (term_at t st.names (i + 1) e) (omega arith) (term_below t st.names e (i + 1) (entries_up st.next (i + 1) st.names.own (omega arith) o)) in
      (omega arith, (omega arith, ((omega arith, value), tt)))

  argument_below : (st : State) (i : ℕ) (e : Expression) → st.next ≤ i → IsBelow st
      → SymbolBelow (i + argument_variables e) (argument t st.names i e) × StepsBelow (i + argument_variables e) (argument_steps t st.names i e)
  argument_below st i (named w) le o = (symbol_up st.next (i + 0) (known_symbol t st.names w) (omega arith) (known_below t st.names st.next w o), tt)
  argument_below st i (integer v) le o = (tt, tt)
  argument_below st i (paren e) le o = evaluated_below st i (paren e) le o
  argument_below st i (call w es) le o = evaluated_below st i (call w es) le o
  argument_below st i (sized e k) le o = evaluated_below st i (sized e k) le o
  argument_below st i (dropped e k) le o = evaluated_below st i (dropped e k) le o
  argument_below st i (bits e l c) le o = evaluated_below st i (bits e l c) le o
  argument_below st i (prefix f e) le o = evaluated_below st i (prefix f e) le o
  argument_below st i (star z k e) le o = evaluated_below st i (star z k e) le o
  argument_below st i (binary f a b) le o = evaluated_below st i (binary f a b) le o

  given_below : (st : State) (i : ℕ) (es : List Expression) → st.next ≤ i → IsBelow st → StepsBelow (i + given_variables es) (given t st.names i es)
  given_below st i [] le o = tt
  given_below st i (e ∷ es) le o =
      let j = i + argument_variables e in
      let n = i + (argument_variables e + given_variables es) in
      let one = argument_below st i e le o in
      let at : j + given_variables es ≡ n = omega arith in
      let rest = subst (λ m. StepsBelow m (given t st.names j es)) at (given_below st j es (omega arith) o) in
      steps_both n (argument_steps t st.names i e) (given t st.names j es) (steps_up j n (argument_steps t st.names i e) (omega arith) one.1) rest

  parameters_below : (st : State) (i n : ℕ) (own : List Entry) (ps : List Name) (es : List Expression) → st.next ≤ i → i + given_variables es ≤ n → IsBelow st → EntriesBelow n own
      → EntriesBelow n (parameters t st.names i own ps es)
  parameters_below st i n own [] es le up o h = h
  parameters_below st i n own (p ∷ ps) [] le up o h = h
  parameters_below st i n own (p ∷ ps) (e ∷ es) le up o h =
      let j = i + argument_variables e in
      let one = argument_below st i e le o in
      let a = argument t st.names i e in
      parameters_below st j n (with_symbol own p a) ps es (omega arith) (omega arith) o
      (with_symbol_below n own p a h (symbol_up j n a (omega arith) one.0))

  macro_kept : (earlier : Calls) → CallsKept earlier → (m : Body) → CallsKept (macro_calls t earlier m)
  macro_kept earlier h m = record {
    at = λ w es st o.
        let first = entered t st m es in
        let g = given_below st st.next es (omega arith) o in
        let ps = parameters_below st st.next first.next [] (parameters_of m) es (omega arith) (omega arith) o tt in
        let body = all_kept earlier h first (body_of m) ps in
        let last = all_after t earlier first (body_of m) in
        record {
          below = steps_both last.next (given t st.names st.next es) (all_taken t earlier first (body_of m)) (steps_up first.next last.next (given t st.names st.next es) body.up g) body.below;
          own = entries_up st.next last.next st.names.own (omega (arith, body.up)) o;
          up = omega (arith, body.up);
        };
  }

  if_kept : (b : Bool) (st s1 s2 : State) (t1 t2 : List Step) → Kept st s1 t1 → Kept st s2 t2 → Kept st (if b then s1 else s2) (if b then t1 else t2)
  if_kept true st s1 s2 t1 t2 h k = h
  if_kept false st s1 s2 t1 t2 h k = k

  module _ (macros : List Body) where
    with_macro_kept : (n : ℕ) (m : Option Body) (c : Calls) → CallsKept c → CallsKept (with_macro t macros n m c)
    with_macro_kept n None c h = h
    with_macro_kept n (Some m) c h = record {
      at = λ w es st o.
          let this = macro_calls t c m in
          if_kept (is_call_of t macros n m w es) st (this.after w es st) (c.after w es st) (this.taken w es st) (c.taken w es st) ((macro_kept c h m).at w es st o) (h.at w es st o);
    }

    pub calls_kept : (n : ℕ) → CallsKept (calls_of t macros n)
    calls_kept zero = userops_kept
    calls_kept (suc n) = with_macro_kept n (slice_get macros n) (calls_of t macros n) (calls_kept n)

  -- ---- the section

  field_below : (n i : ℕ) (size : Option ℕ) → SymbolBelow n (field_symbol i size)
  field_below n i None = tt
  field_below n i (Some k) = tt

  operand_below : (n i : ℕ) (m : Means) → SymbolBelow n (operand_symbol t i m)
  operand_below n i (means.Field f) = field_below n i (attached_size t f)
  operand_below n i (means.Table b) = tt
  operand_below n i (means.Action k) = tt

  operands_below : (n i : ℕ) (own : List Entry) (os : List tables.Operand) → EntriesBelow n own → EntriesBelow n (with_operands t own i os)
  operands_below n i own [] h = h
  operands_below n i own (o ∷ os) h =
      operands_below n (i + 1) (with_symbol own o.name (operand_symbol t i o.means)) os (with_symbol_below n own o.name (operand_symbol t i o.means) h (operand_below n i o.means))

build_if : (n i : ℕ) (b : Bool) → StepsBelow n (if b then s.build i ∷ [] else [])
build_if n i true = (tt, tt)
build_if n i false = tt

unplaced_below : (n : ℕ) (names : List Name) (i : ℕ) (os : List tables.Operand) → StepsBelow n (unplaced names i os)
unplaced_below n names i [] = tt
unplaced_below n names i (o ∷ os) =
    steps_both n (unplaced_one names i o) (unplaced names (i + 1) os) (build_if n i (is_table o.means && not (is_among names o.name))) (unplaced_below n names (i + 1) os)

-- each size variable of a section is below their number
pub section_below : (t : Tables) (macros : List Body) (reach : Reach) (os : List tables.Operand) (body : List Statement)
    → StepsBelow (section_variables t macros reach os body) (section_steps t macros reach os body)
section_below t macros reach os body =
    let c = calls_of t macros reach.macros in
    let first = opening t reach os in
    let kept = all_kept t c (calls_kept t macros reach.macros) first body (operands_below t 0 0 [] os tt) in
    let n = (all_after t c first body).next in
    steps_both n (unplaced (fold with_built [] body) 0 os) (all_taken t c first body) (unplaced_below n (fold with_built [] body) 0 os) kept.below
