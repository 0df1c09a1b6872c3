-- The statements of a section have no more parts, and no more size variables, than they weigh.
use Rattle.std.proofs.Common.{◌≡◌, ℕ, zero, suc, ◌+◌, ◌≤◌, ◌==◌, ◌&&◌, max, Bool, true, false, not, List, [], ◌∷◌, ◌++◌, Option, Some, None, fold, option_map, slice_get, refl, sym, ap, ◌∙◌, subst, arith, if◌then◌else◌}
use Rattle.std.proofs.lemmas.Bool.Decides.{nat_tests}
use Rattle.std.proofs.lemmas.List.Sums.{sum_by-cons}
use Rattle.sl_ast.specs.Trees.{Expression, integer, named, paren, call, sized, dropped, bits, prefix, star, binary, Left, left_name, left_bits, left_star, Dest, direct, computed, Target, calls, calls_computed, Exported, exports, exports_star, Statement, local, declare, assign, goto, branch, call_to, return, build, export, invoke, label}
use Rattle.sl_ast.specs.Views.{arguments}
use Rattle.sl_section_resolve.specs.Macros.{Body}
use Rattle.sl_section_terms.specs.Scopes.{known_symbol, symbol_named, userop_named}
use Rattle.sl_section_resolve.specs.Steps.{Calls, after, all_after, all_taken, argument_steps, argument_variables, assign_after, assign_steps, body_of, build_steps, call_step, call_variables, calls_of, entered, evaluated_steps, export_variables, given, given_variables, goto_step, goto_variables, is_call_of, is_number, is_table, left_after, left_steps, local_after, local_steps, macro_calls, macro_name, opening, section_steps, section_variables, taken, unplaced, unplaced_one, userop_calls, userop_steps, with_built}
use Rattle.sl_section_resolve.specs.Steps as steps
use Rattle.sl_section_terms.specs.Terms.{terms_at, variables}
use Rattle.sl_section_terms.specs.declared.names.Names.{Names}
use Rattle.sl_section_resolve.specs.declared.state.State.{State}
use Rattle.sl_spec_rules.specs.Names.{is_among}
use Rattle.sl_section_flat.specs.Sections as s
use Rattle.sl_section_flat.specs.Sections.{Step, Symbol, Term, bounded}
use Rattle.sl_faithful_limits.specs.PartLaws.{PartsTakeTokens}
use Rattle.sl_faithful_limits.proofs.MacroWeights.{last_weight, number_grown, upto, upto_all, upto_more, upto_past}
use Rattle.sl_faithful_limits.proofs.TermParts.{all_parts_few, arguments_few, parts_few, variables_few}
use Rattle.sl_spec.specs.Named.{index_named}
use Rattle.sl_spec.specs.Tables as tables
use Rattle.sl_spec.specs.Tables.{Name}
use Rattle.sl_spec.specs.declared.tables.Tables.{Tables}
use Rattle.sl_section_weights.specs.Sizes.{arguments_size, dest_size, expression_size, statement_size, target_size}
use Rattle.sl_section_weights.specs.Weights.{body_weight, call_weight, macro_weights, number_at}
use Rattle.sl_section_weights.proofs.BodyLemmas.{statement_weight}
use Rattle.sl_section_weights.proofs.SizeLemmas.{tokens_more}
use Rattle.sl_faithful_formed.specs.Lengths.{steps_parts}

-- so many parts, and so many size variables more
record Weighs (ss : List Step) (st st' : State) (n : ℕ) : Type 0 where
  pub parts : steps_parts ss ≤ n
  pub next : st'.next ≤ st.next + n

weighs_up : (ss : List Step) (st st' : State) (m n : ℕ) → m ≤ n → Weighs ss st st' m → Weighs ss st st' n
weighs_up ss st st' m n le h = record { parts = omega (arith, le, h.parts); next = omega (arith, le, h.next) }

parts_append : (a b : List Step) → steps_parts (a ++ b) ≡ steps_parts a + steps_parts b
parts_append [] b = omega arith
parts_append (x ∷ a) b = let h = parts_append a b in omega (arith, h)

-- ---- statements

build_none : (a : Symbol) → steps_parts (build_steps a) ≡ 0
build_none (s.table i) = refl
build_none (s.local x) = refl
build_none (s.register p o k) = refl
build_none (s.bit_range p o k l c) = refl
build_none (s.attached i k) = refl
build_none (s.value i) = refl
build_none s.start = refl
build_none s.next = refl
build_none (s.integer v) = refl

userop_few : (o : Option ℕ) (ts : List Term) (n : ℕ) → steps_parts (s.run_user 0 ts ∷ []) ≤ n → steps_parts (userop_steps o ts) ≤ n
userop_few None ts n h = omega arith
userop_few (Some u) ts n h = h

module _ (t : Tables) (macros : List Body) where
  abbrev called_weight : List ℕ → Name → ℕ
  called_weight weights w = number_at weights (index_named macro_name w macros)

  -- the weight of a call
  abbrev invoke_weight : List ℕ → Name → List Expression → ℕ
  invoke_weight weights w es = max 1 (arguments_size (arguments es)) + 3 + called_weight weights w

  -- calls weigh no more than their tokens and the macros
  record CallsWeigh (c : Calls) (weights : List ℕ) : Type 0 where
    pub at : (w : Name) (es : List Expression) (st : State) → Weighs (c.taken w es st) st (c.after w es st) (invoke_weight weights w es)

  calls_up : (c : Calls) (one other : List ℕ) → ((o : Option ℕ) → number_at one o ≤ number_at other o) → CallsWeigh c one → CallsWeigh c other
  calls_up c one other up h = record {
    at = λ w es st. let le = up (index_named macro_name w macros) in weighs_up (c.taken w es st) st (c.after w es st) (invoke_weight one w es) (invoke_weight other w es) (omega (arith, le)) (h.at w es st);
  }

  userops_weigh : (weights : List ℕ) → CallsWeigh (userop_calls t) weights
  userops_weigh weights = record {
    at = λ w es st.
        let h = all_parts_few t st.names (arguments es) st.next in
        let k = arguments_few (arguments es) in
        record {
          parts = userop_few (userop_named t st.names.reach w) (terms_at t st.names st.next (arguments es)) (invoke_weight weights w es) (omega (arith, h));
          next = omega (arith, k);
        };
  }

  local_weighs : (st : State) (w : Name) (size : Option ℕ) (e : Expression) (n : ℕ) → expression_size e + 1 ≤ n → Weighs (local_steps t st size (Some e)) st (local_after w st (Some e)) n
  local_weighs st w size e n le =
      let h = parts_few t st.names e (st.next + 1) in
      let k = variables_few e in
      record { parts = omega (arith, h, le); next = omega (arith, k, le) }

  assign_weighs : (st : State) (w : Name) (a : Option Symbol) (e : Expression) (n : ℕ) → expression_size e + 1 ≤ n → Weighs (assign_steps t st a e) st (assign_after w st a e) n
  assign_weighs st w None e n le = local_weighs st w None e n le
  assign_weighs st w (Some a) e n le =
      let h = parts_few t st.names e st.next in
      let k = variables_few e in
      record { parts = omega (arith, h, le); next = omega (arith, k, le) }

  left_weighs : (st : State) (left : Left) (e : Expression) (n : ℕ) → statement_size (assign left e) ≤ n → Weighs (left_steps t st left e) st (left_after t st left e) n
  left_weighs st (left_name w) e n le = assign_weighs st w (symbol_named t st.names w) e n (omega (arith, le))
  left_weighs st (left_bits w l c) e n le =
      let h = parts_few t st.names e st.next in
      let k = variables_few e in
      record { parts = omega (arith, h, le); next = omega (arith, k, le) }
  left_weighs st (left_star form p) e n le =
      let h = parts_few t st.names p st.next in
      let h' = parts_few t st.names e (st.next + variables p + 1) in
      let k = variables_few p in
      let k' = variables_few e in
      record { parts = omega (arith, h, h', le); next = omega (arith, k, k', le) }

  goto_weighs : (st : State) (to : Dest) (n : ℕ) → dest_size to + 2 ≤ n → Weighs (goto_step t st to ∷ []) st (steps.moved (goto_variables to) st) n
  goto_weighs st (direct to) n le = record { parts = omega (arith, le); next = omega arith }
  goto_weighs st (computed e) n le =
      let h = parts_few t st.names e st.next in
      let k = variables_few e in
      record { parts = omega (arith, h, le); next = omega (arith, k, le) }

  call_weighs : (st : State) (to : Target) (n : ℕ) → target_size to + 2 ≤ n → Weighs (call_step t st to ∷ []) st (steps.moved (call_variables to) st) n
  call_weighs st (calls p) n le = record { parts = omega (arith, le); next = omega arith }
  call_weighs st (calls_computed e) n le =
      let h = parts_few t st.names e st.next in
      let k = variables_few e in
      record { parts = omega (arith, h, le); next = omega (arith, k, le) }

  export_few : (what : Exported) → export_variables what ≤ 2
  export_few (exports w) = omega arith
  export_few (exports_star form p) = omega arith

  module _ (weights : List ℕ) where
    taken_weighs : (c : Calls) → CallsWeigh c weights → (st : State) (x : Statement) → Weighs (taken t c st x) st (after t c st x) (statement_weight macros weights x)
    taken_weighs c h st (local w size None) = record { parts = omega arith; next = omega arith }
    taken_weighs c h st (local w size (Some e)) = local_weighs st w (option_map bounded size) e _ (omega arith)
    taken_weighs c h st (declare w n e) = local_weighs st w (Some (bounded n)) e _ (omega arith)
    taken_weighs c h st (assign left e) = left_weighs st left e _ (omega arith)
    taken_weighs c h st (goto to) = goto_weighs st to _ (omega arith)
    taken_weighs c h st (branch e to) =
        let h' = parts_few t st.names e st.next in
        let k = variables_few e in
        record { parts = omega (arith, h'); next = omega (arith, k) }
    taken_weighs c h st (call_to to) = call_weighs st to _ (omega arith)
    taken_weighs c h st (return e) =
        let h' = parts_few t st.names e st.next in
        let k = variables_few e in
        record { parts = omega (arith, h'); next = omega (arith, k) }
    taken_weighs c h st (build w) = let none = build_none (known_symbol t st.names w) in record { parts = omega (arith, none); next = omega arith }
    taken_weighs c h st (export what) = let few = export_few what in record { parts = omega arith; next = omega (arith, few) }
    taken_weighs c h st (invoke w es) = h.at w es st
    taken_weighs c h st (label w) = record { parts = omega arith; next = omega arith }

    body_more : (x : Statement) (xs : List Statement) → body_weight macros weights (x ∷ xs) ≡ statement_weight macros weights x + body_weight macros weights xs
    body_more x xs = omega (arith, tokens_more x xs, sum_by-cons (call_weight macros weights) x xs)

    all_weigh : (c : Calls) → CallsWeigh c weights → (st : State) (xs : List Statement) → Weighs (all_taken t c st xs) st (all_after t c st xs) (body_weight macros weights xs)
    all_weigh c h st [] = record { parts = omega arith; next = omega arith }
    all_weigh c h st (x ∷ xs) =
        let one = taken_weighs c h st x in
        let rest = all_weigh c h (after t c st x) xs in
        let whole = body_more x xs in
        let joined = parts_append (taken t c st x) (all_taken t c (after t c st x) xs) in
        record { parts = omega (arith, one.parts, rest.parts, whole, joined); next = omega (arith, one.next, rest.next, whole) }

  -- ---- macros

  evaluated_few : (names : Names) (i : ℕ) (e : Expression) → steps_parts (evaluated_steps t names i e) ≤ expression_size e + 1
  evaluated_few names i e = let h = parts_few t names e (i + 1) in omega (arith, h)

  argument_few : (names : Names) (i : ℕ) (e : Expression) → steps_parts (argument_steps t names i e) ≤ expression_size e + 1
  argument_few names i (named w) = omega arith
  argument_few names i (integer v) = omega arith
  argument_few names i (paren e) = evaluated_few names i (paren e)
  argument_few names i (call w es) = evaluated_few names i (call w es)
  argument_few names i (sized e k) = evaluated_few names i (sized e k)
  argument_few names i (dropped e k) = evaluated_few names i (dropped e k)
  argument_few names i (bits e l c) = evaluated_few names i (bits e l c)
  argument_few names i (prefix f e) = evaluated_few names i (prefix f e)
  argument_few names i (star z k e) = evaluated_few names i (star z k e)
  argument_few names i (binary f a b) = evaluated_few names i (binary f a b)

  argument_variables_few : (e : Expression) → argument_variables e ≤ expression_size e + 1
  argument_variables_few (named w) = omega arith
  argument_variables_few (integer v) = omega arith
  argument_variables_few (paren e) = let h = variables_few (paren e) in omega (arith, h)
  argument_variables_few (call w es) = let h = variables_few (call w es) in omega (arith, h)
  argument_variables_few (sized e k) = let h = variables_few (sized e k) in omega (arith, h)
  argument_variables_few (dropped e k) = let h = variables_few (dropped e k) in omega (arith, h)
  argument_variables_few (bits e l c) = let h = variables_few (bits e l c) in omega (arith, h)
  argument_variables_few (prefix f e) = let h = variables_few (prefix f e) in omega (arith, h)
  argument_variables_few (star z k e) = let h = variables_few (star z k e) in omega (arith, h)
  argument_variables_few (binary f a b) = let h = variables_few (binary f a b) in omega (arith, h)

  given_few : (names : Names) (i : ℕ) (es : List Expression) → steps_parts (given t names i es) ≤ arguments_size (arguments es)
  given_few names i [] = omega arith
  given_few names i (e ∷ es) =
      let one = argument_few names i e in
      let rest = given_few names (i + argument_variables e) es in
      let joined = parts_append (argument_steps t names i e) (given t names (i + argument_variables e) es) in
      omega (arith, one, rest, joined)

  given_variables_few : (es : List Expression) → given_variables es ≤ arguments_size (arguments es)
  given_variables_few [] = omega arith
  given_variables_few (e ∷ es) = let one = argument_variables_few e in let rest = given_variables_few es in omega (arith, one, rest)

  -- a call of a macro
  macro_weighs : (earlier : Calls) (weights : List ℕ) → CallsWeigh earlier weights → (m : Body) (w : Name) (es : List Expression) (st : State) (n : ℕ) → arguments_size (arguments es) + body_weight macros weights (body_of m) ≤ n
      → Weighs ((macro_calls t earlier m).taken w es st) st ((macro_calls t earlier m).after w es st) n
  macro_weighs earlier weights h m w es st n le =
      let first = entered t st m es in
      let body = all_weigh weights earlier h first (body_of m) in
      let before = given_few st.names st.next es in
      let more = given_variables_few es in
      let joined = parts_append (given t st.names st.next es) (all_taken t earlier first (body_of m)) in
      record { parts = omega (arith, body.parts, before, joined, le); next = omega (arith, body.next, more, le) }

  weighs_if : (found : Bool) (s1 s2 : List Step) (st t1 t2 : State) (n : ℕ) → (found ≡ true → Weighs s1 st t1 n) → Weighs s2 st t2 n → Weighs (if found then s1 else s2) st (if found then t1 else t2) n
  weighs_if true s1 s2 st t1 t2 n h k = h refl
  weighs_if false s1 s2 st t1 t2 n h k = k

  number_is : (n : ℕ) (o : Option ℕ) (b : Bool) → (is_number n o && b) ≡ true → o ≡ Some n
  number_is n None b e = absurd (let no : ⊥ = cc in no)
  number_is n (Some i) b e = ap Some (same (i == n) b e refl)
    where
      same : (c d : Bool) → (c && d) ≡ true → (i == n) ≡ c → i ≡ n
      same true d e test = grind (arith, nat_tests)
      same false d e test = absurd (let no : ⊥ = cc in no)

  with_macro_weighs : (n : ℕ) (o : Option Body) → slice_get macros n ≡ o → (c : Calls) → CallsWeigh c (upto macros n) → CallsWeigh (steps.with_macro t macros n o c) (upto macros (suc n))
  with_macro_weighs n None is c h = subst (CallsWeigh c) (sym (upto_past macros n is)) h
  with_macro_weighs n (Some m) is c h = subst (CallsWeigh (steps.with_macro t macros n (Some m) c)) (sym (upto_more macros n m is)) (record {
    at = λ w es st.
        let this = macro_calls t c m in
        let own = body_weight macros (upto macros n) (body_of m) in
        let new = upto macros n ++ own ∷ [] in
        weighs_if (is_call_of t macros n m w es) (this.taken w es st) (c.taken w es st) st (this.after w es st) (c.after w es st) (invoke_weight new w es)
        (λ e. let there : called_weight new w ≡ own = ap (number_at new) (number_is n (index_named macro_name w macros) _ e) ∙ last_weight macros n own m is in
        macro_weighs c (upto macros n) h m w es st (invoke_weight new w es) (omega (arith, there)))
        ((calls_up c (upto macros n) new (number_grown (upto macros n) own) h).at w es st);
  })

  calls_weigh : (n : ℕ) → CallsWeigh (calls_of t macros n) (upto macros n)
  calls_weigh zero = userops_weigh (upto macros 0)
  calls_weigh (suc n) = with_macro_weighs n (slice_get macros n) refl (calls_of t macros n) (calls_weigh n)

  -- ---- the section

  unplaced_if : (found : Bool) (i : ℕ) → steps_parts (if found then s.build i ∷ [] else []) ≡ 0
  unplaced_if true i = refl
  unplaced_if false i = refl

  unplaced_none : (names : List Name) (i : ℕ) (os : List tables.Operand) → steps_parts (unplaced names i os) ≡ 0
  unplaced_none names i [] = refl
  unplaced_none names i (o ∷ os) =
      let one = unplaced_if (is_table o.means && not (is_among names o.name)) i in
      let rest = unplaced_none names (i + 1) os in
      let joined = parts_append (unplaced_one names i o) (unplaced names (i + 1) os) in
      omega (arith, one, rest, joined)

pub parts_take_tokens : PartsTakeTokens
parts_take_tokens t macros reach os body =
    let names = fold with_built [] body in
    let c = calls_of t macros reach.macros in
    let first = opening t reach os in
    let calls' = calls_up t macros c (upto macros reach.macros) (macro_weights macros) (upto_all macros reach.macros) (calls_weigh t macros reach.macros) in
    let whole = all_weigh t macros (macro_weights macros) c calls' first body in
    let none = unplaced_none t macros names 0 os in
    let joined = parts_append (unplaced names 0 os) (all_taken t c first body) in
    record { parts = omega (arith, whole.parts, none, joined); variables = omega (arith, whole.next) }
