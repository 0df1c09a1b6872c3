-- What is so of all names of a section is so of those of its statements, macros taken out.
use Rattle.std.proofs.Common.{◌≡◌, ℕ, zero, suc, ◌+◌, ◌&&◌, Bool, true, false, not, List, [], ◌∷◌, ◌++◌, Option, Some, None, option_map, fold, slice_get, length, refl, subst, arith, if◌then◌else◌}
use Rattle.sl_ast.specs.Trees.{Expression, integer, named, paren, call, sized, dropped, bits, prefix, star, binary, Left, left_name, left_bits, left_star, Operand, by_name, by_integer, Direct, to_label, to_operand, Dest, direct, computed, Target, calls, calls_computed, Exported, exports, exports_star, Statement, local, declare, assign, goto, branch, call_to, return, build, export, invoke, label}
use Rattle.sl_ast.specs.Views.{arguments}
use Rattle.sl_faithful_keeping.specs.NameLaws.{IsSoOfAll, NamesAreKnown}
use Rattle.sl_faithful_keeping.specs.Names.{DirectNames, ExportNames, IsNamedSo, StepsName}
use Rattle.sl_faithful_keeping.proofs.TermNames.{EntriesOk, OptBelow, OptOk, TermOk, TermsOk, known_ok, space_ok, symbol_ok, term_ok, terms_ok, userop_ok, with_symbol_ok}
use Rattle.sl_section_terms.specs.Entries.{Entry}
use Rattle.sl_section_resolve.specs.Macros.{Body}
use Rattle.sl_section_terms.specs.Scopes.{known_symbol, operand_symbol, symbol_named, userop_named, with_operands, with_symbol}
use Rattle.sl_section_resolve.specs.Steps.{Calls, after, all_taken, argument, argument_steps, argument_variables, assign_after, assign_steps, body_of, build_steps, call_step, calls_of, direct_of, entered, evaluated_steps, exported, given, goto_step, is_call_of, is_const, is_table, left_after, left_steps, local_after, local_steps, macro_calls, opening, parameters, parameters_of, place_of, pointer_term, section_steps, taken, unplaced, unplaced_one, userop_calls, userop_steps, with_built, with_macro}
use Rattle.sl_section_terms.specs.Terms.{term_at, terms_at, variables}
use Rattle.sl_section_terms.specs.declared.reach.Reach.{Reach}
use Rattle.sl_section_resolve.specs.declared.state.State.{State}
use Rattle.sl_spec_rules.specs.Names.{is_among}
use Rattle.sl_section_flat.specs.Sections as s
use Rattle.sl_section_flat.specs.Sections.{Step, Symbol, Term, bounded}
use Rattle.sl_section_flat.specs.Chains.{chain}
use Rattle.sl_spec.specs.Tables as tables
use Rattle.sl_spec.specs.Tables.{Name}
use Rattle.sl_spec.specs.declared.tables.Tables.{Tables}

module _ (t : Tables) (os : List tables.Operand) (IsSo : Symbol → Type 0) (all : IsSoOfAll t os IsSo) where
  abbrev StepsOk : List Step → Type 0
  StepsOk ss = StepsName IsSo (length t.spaces) (length t.userops) ss

  abbrev StateOk : State → Type 0
  StateOk st = EntriesOk t os IsSo all st.names.own

  steps_both : (a b : List Step) → StepsOk a → StepsOk b → StepsOk (a ++ b)
  steps_both [] b h k = k
  steps_both (x ∷ a) b h k = (h.0, steps_both a b h.1 k)

  steps_if : (found : Bool) (a b : List Step) → StepsOk a → StepsOk b → StepsOk (if found then a else b)
  steps_if true a b h k = h
  steps_if false a b h k = k

  -- the steps are so, and so are the names that are known behind them
  pub record Kept (st : State) (ss : List Step) : Type 0 where
    pub steps : StepsOk ss
    pub own : StateOk st

  term_here : (st : State) (e : Expression) (i : ℕ) → StateOk st → TermOk t os IsSo all (term_at t st.names i e)
  term_here st e i h = term_ok t os IsSo all st.names e i h

  name_here : (st : State) (w : Name) → StateOk st → IsSo (known_symbol t st.names w)
  name_here st w h = known_ok t os IsSo all st.names w h

  build_ok : (a : Symbol) → StepsOk (build_steps a)
  build_ok (s.table i) = (tt, tt)
  build_ok (s.local x) = tt
  build_ok (s.register p o k) = tt
  build_ok (s.bit_range p o k l c) = tt
  build_ok (s.attached i k) = tt
  build_ok (s.value i) = tt
  build_ok s.start = tt
  build_ok s.next = tt
  build_ok (s.integer v) = tt

  userop_steps_ok : (o : Option ℕ) (ts : List Term) → OptBelow (length t.userops) o → TermsOk t os IsSo all (chain ts) → StepsOk (userop_steps o ts)
  userop_steps_ok None ts h k = tt
  userop_steps_ok (Some u) ts h k = ((h, k), tt)

  local_kept : (st : State) (w : Name) (size : Option ℕ) (value : Option Expression) → StateOk st → Kept (local_after w st value) (local_steps t st size value)
  local_kept st w size None h = record {
    steps = (tt, tt);
    own = with_symbol_ok t os IsSo all st.names.own w (s.local st.next) h (all.local st.next);
  }
  local_kept st w size (Some e) h = record {
    steps = (tt, ((all.local st.next, term_here st e (st.next + 1) h), tt));
    own = with_symbol_ok t os IsSo all st.names.own w (s.local st.next) h (all.local st.next);
  }

  assign_kept : (st : State) (w : Name) (a : Option Symbol) (e : Expression) → OptOk t os IsSo all a → StateOk st → Kept (assign_after w st a e) (assign_steps t st a e)
  assign_kept st w None e k h = local_kept st w None (Some e) h
  assign_kept st w (Some a) e k h = record { steps = ((k, term_here st e st.next h), tt); own = h }

  left_kept : (st : State) (left : Left) (e : Expression) → StateOk st → Kept (left_after t st left e) (left_steps t st left e)
  left_kept st (left_name w) e h = assign_kept st w (symbol_named t st.names w) e (symbol_ok t os IsSo all st.names w h) h
  left_kept st (left_bits w l c) e h = record { steps = ((name_here st w h, term_here st e st.next h), tt); own = h }
  left_kept st (left_star form p) e h = record {
    steps = ((space_ok t os IsSo all st.names form.space, term_here st p st.next h, term_here st e (st.next + variables p + 1) h), tt);
    own = h;
  }

  place_ok : (st : State) (p : Operand) → StateOk st → IsSo (place_of t st p)
  place_ok st (by_name w) h = name_here st w h
  place_ok st (by_integer v) h = all.integer v

  direct_ok : (st : State) (to : Direct) → StateOk st → DirectNames IsSo (length t.spaces) (length t.userops) (direct_of t st to)
  direct_ok st (to_label w) h = tt
  direct_ok st (to_operand p) h = place_ok st p h

  goto_ok : (st : State) (to : Dest) → StateOk st → StepsOk (goto_step t st to ∷ [])
  goto_ok st (direct to) h = (direct_ok st to h, tt)
  goto_ok st (computed e) h = (term_here st e st.next h, tt)

  call_ok : (st : State) (to : Target) → StateOk st → StepsOk (call_step t st to ∷ [])
  call_ok st (calls p) h = (place_ok st p h, tt)
  call_ok st (calls_computed e) h = (term_here st e st.next h, tt)

  pointer_ok : (st : State) (p : Operand) → StateOk st → TermOk t os IsSo all (pointer_term t st p)
  pointer_ok st (by_name w) h = name_here st w h
  pointer_ok st (by_integer v) h = tt

  abbrev ExportOk : s.Export → Type 0
  ExportOk what = ExportNames IsSo (length t.spaces) (length t.userops) what

  export_if : (found : Bool) (x y : s.Export) → ExportOk x → ExportOk y → ExportOk (if found then x else y)
  export_if true x y h k = h
  export_if false x y h k = k

  export_ok : (st : State) (what : Exported) → StateOk st → ExportOk (exported t st what)
  export_ok st (exports w) h = name_here st w h
  export_ok st (exports_star form p) h =
      export_if (is_const form.space) _ _ (pointer_ok st p h) (space_ok t os IsSo all st.names form.space, pointer_ok st p h)

  -- what is known of calls
  pub record CallsKept (c : Calls) : Type 0 where
    pub at : (w : Name) (es : List Expression) (st : State) → StateOk st → Kept (c.after w es st) (c.taken w es st)

  userops_kept : CallsKept (userop_calls t)
  userops_kept = record {
    at = λ w es st h. record {
      steps = userop_steps_ok (userop_named t st.names.reach w) (terms_at t st.names st.next (arguments es)) (userop_ok t os IsSo all st.names w) (terms_ok t os IsSo all st.names (arguments es) st.next h);
      own = h;
    };
  }

  taken_kept : (c : Calls) → CallsKept c → (st : State) (x : Statement) → StateOk st → Kept (after t c st x) (taken t c st x)
  taken_kept c k st (local w size value) h = local_kept st w (option_map bounded size) value h
  taken_kept c k st (declare w n e) h = local_kept st w (Some (bounded n)) (Some e) h
  taken_kept c k st (assign left e) h = left_kept st left e h
  taken_kept c k st (goto to) h = record { steps = goto_ok st to h; own = h }
  taken_kept c k st (branch e to) h = record { steps = ((term_here st e st.next h, direct_ok st to h), tt); own = h }
  taken_kept c k st (call_to to) h = record { steps = call_ok st to h; own = h }
  taken_kept c k st (return e) h = record { steps = (term_here st e st.next h, tt); own = h }
  taken_kept c k st (build w) h = record { steps = build_ok (known_symbol t st.names w); own = h }
  taken_kept c k st (export what) h = record { steps = (export_ok st what h, tt); own = h }
  taken_kept c k st (invoke w es) h = k.at w es st h
  taken_kept c k st (label w) h = record { steps = (tt, tt); own = h }

  all_kept : (c : Calls) → CallsKept c → (st : State) (xs : List Statement) → StateOk st → StepsOk (all_taken t c st xs)
  all_kept c k st [] h = tt
  all_kept c k st (x ∷ xs) h =
      let one = taken_kept c k st x h in
      steps_both (taken t c st x) (all_taken t c (after t c st x) xs) one.steps (all_kept c k (after t c st x) xs one.own)

  -- ---- macros

  -- what a parameter stands for, and the steps before
  record Given (a : Symbol) (ss : List Step) : Type 0 where
    pub is : IsSo a
    pub steps : StepsOk ss

  evaluated_ok : (st : State) (i : ℕ) (e : Expression) → StateOk st → Given (s.local i) (evaluated_steps t st.names i e)
  evaluated_ok st i e h = record { is = all.local i; steps = (tt, ((all.local i, term_here st e (i + 1) h), tt)) }

  argument_ok : (st : State) (i : ℕ) (e : Expression) → StateOk st → Given (argument t st.names i e) (argument_steps t st.names i e)
  argument_ok st i (named w) h = record { is = name_here st w h; steps = tt }
  argument_ok st i (integer v) h = record { is = all.integer v; steps = tt }
  argument_ok st i (paren e) h = evaluated_ok st i (paren e) h
  argument_ok st i (call w es) h = evaluated_ok st i (call w es) h
  argument_ok st i (sized e k) h = evaluated_ok st i (sized e k) h
  argument_ok st i (dropped e k) h = evaluated_ok st i (dropped e k) h
  argument_ok st i (bits e l c) h = evaluated_ok st i (bits e l c) h
  argument_ok st i (prefix f e) h = evaluated_ok st i (prefix f e) h
  argument_ok st i (star z k e) h = evaluated_ok st i (star z k e) h
  argument_ok st i (binary f a c) h = evaluated_ok st i (binary f a c) h

  given_ok : (st : State) (i : ℕ) (es : List Expression) → StateOk st → StepsOk (given t st.names i es)
  given_ok st i [] h = tt
  given_ok st i (e ∷ es) h =
      steps_both (argument_steps t st.names i e) (given t st.names (i + argument_variables e) es) (argument_ok st i e h).steps (given_ok st (i + argument_variables e) es h)

  parameters_ok : (st : State) (i : ℕ) (own : List Entry) (ps : List Name) (es : List Expression) → StateOk st → EntriesOk t os IsSo all own → EntriesOk t os IsSo all (parameters t st.names i own ps es)
  parameters_ok st i own [] es h k = k
  parameters_ok st i own (p ∷ ps) [] h k = k
  parameters_ok st i own (p ∷ ps) (e ∷ es) h k =
      parameters_ok st (i + argument_variables e) (with_symbol own p (argument t st.names i e)) ps es h
      (with_symbol_ok t os IsSo all own p (argument t st.names i e) k (argument_ok st i e h).is)

  macro_kept : (earlier : Calls) → CallsKept earlier → (m : Body) → CallsKept (macro_calls t earlier m)
  macro_kept earlier k m = record {
    at = λ w es st h.
        let first = entered t st m es in
        let ps = parameters_ok st st.next [] (parameters_of m) es h tt in
        record {
          steps = steps_both (given t st.names st.next es) (all_taken t earlier first (body_of m)) (given_ok st st.next es h) (all_kept earlier k first (body_of m) ps);
          own = h;
        };
  }

  if_kept : (found : Bool) (s1 s2 : State) (t1 t2 : List Step) → Kept s1 t1 → Kept s2 t2 → Kept (if found then s1 else s2) (if found then t1 else t2)
  if_kept true s1 s2 t1 t2 h k = h
  if_kept false s1 s2 t1 t2 h k = k

  module _ (macros : List Body) where
    with_macro_kept : (n : ℕ) (m : Option Body) (c : Calls) → CallsKept c → CallsKept (with_macro t macros n m c)
    with_macro_kept n None c k = k
    with_macro_kept n (Some m) c k = record {
      at = λ w es st h.
          let this = macro_calls t c m in
          if_kept (is_call_of t macros n m w es) (this.after w es st) (c.after w es st) (this.taken w es st) (c.taken w es st) ((macro_kept c k m).at w es st h) (k.at w es st h);
    }

    calls_kept : (n : ℕ) → CallsKept (calls_of t macros n)
    calls_kept zero = userops_kept
    calls_kept (suc n) = with_macro_kept n (slice_get macros n) (calls_of t macros n) (calls_kept n)

  -- ---- the section

  build_if : (found : Bool) (i : ℕ) → StepsOk (if found then s.build i ∷ [] else [])
  build_if true i = (tt, tt)
  build_if false i = tt

  unplaced_ok : (names : List Name) (i : ℕ) (rest : List tables.Operand) → StepsOk (unplaced names i rest)
  unplaced_ok names i [] = tt
  unplaced_ok names i (o ∷ rest) =
      steps_both (unplaced_one names i o) (unplaced names (i + 1) rest) (build_if (is_table o.means && not (is_among names o.name)) i) (unplaced_ok names (i + 1) rest)

  -- the operands from number i on
  operands_ok : (i : ℕ) (own : List Entry) (rest : List tables.Operand) → ((k : ℕ) (o : tables.Operand) → slice_get rest k ≡ Some o → IsSo (operand_symbol t (i + k) o.means)) → EntriesOk t os IsSo all own → EntriesOk t os IsSo all (with_operands t own i rest)
  operands_ok i own [] each h = h
  operands_ok i own (o ∷ rest) each h =
      let first = subst (λ n. IsSo (operand_symbol t n o.means)) (let e : i + 0 ≡ i = omega arith in e) (each 0 o refl) in
      operands_ok (i + 1) (with_symbol own o.name (operand_symbol t i o.means)) rest
      (λ k p is. subst (λ n. IsSo (operand_symbol t n p.means)) (let e : i + suc k ≡ i + 1 + k = omega arith in e) (each (suc k) p is))
      (with_symbol_ok t os IsSo all own o.name (operand_symbol t i o.means) h first)

  section_ok : (macros : List Body) (reach : Reach) (body : List Statement) → StepsOk (section_steps t macros reach os body)
  section_ok macros reach body =
      let names = fold with_built [] body in
      let c = calls_of t macros reach.macros in
      let own = operands_ok 0 [] os (λ k o is. subst (λ n. IsSo (operand_symbol t n o.means)) (let e : k ≡ 0 + k = omega arith in e) (all.operand k o is)) tt in
      steps_both (unplaced names 0 os) (all_taken t c (opening t reach os) body) (unplaced_ok names 0 os) (all_kept c (calls_kept macros reach.macros) (opening t reach os) body own)

pub names_are_known : NamesAreKnown
names_are_known g kinds t macros reach os body all = section_ok t os (IsNamedSo g kinds) all macros reach body
