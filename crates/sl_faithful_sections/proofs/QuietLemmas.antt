-- Calls of macros neither build nor export, by rule 31.
use Rattle.std.proofs.Common.{◌≡◌, ℕ, zero, suc, ◌+◌, ◌&&◌, Bool, true, false, List, [], ◌∷◌, ◌++◌, Option, Some, None, option_map, slice_get, refl, ap, ◌∙◌, if◌then◌else◌}
use Rattle.std.specs.Prelude.{⊤, not}
use Rattle.std.specs.List.{AllByRecursion}
use Rattle.std.proofs.lemmas.Bool.{true≢false}
use Rattle.sl_ast.specs.Trees.{Expression, integer, named, Left, left_name, left_bits, left_star, Dest, direct, computed, Target, calls, calls_computed, Statement, local, declare, assign, goto, branch, call_to, return, build, export, invoke, label}
use Rattle.sl_ast.specs.Views.{arguments}
use Rattle.sl_faithful_sections.proofs.ListLemmas.{all_at}
use Rattle.sl_section_exports.specs.Exports as text
use Rattle.sl_faithful_keeping.specs.Keeping.{first_export}
use Rattle.sl_faithful_keeping.specs.KeepingLaws.{ExportsAreBare}
use Rattle.sl_spec_registers.proofs.BoolLemmas.{and_parts}
use Rattle.sl_section_resolve.specs.Macros.{Body}
use Rattle.sl_section_terms.specs.Scopes.{known_symbol, symbol_named, userop_named}
use Rattle.sl_section_resolve.specs.Steps.{Calls, after, all_taken, argument_steps, argument_variables, assign_steps, body_of, build_steps, call_step, calls_of, entered, given, goto_step, is_call_of, is_table, left_steps, local_steps, macro_calls, taken, unplaced, unplaced_one, userop_calls, userop_steps, with_macro}
use Rattle.sl_section_terms.specs.Terms.{terms_at}
use Rattle.sl_section_terms.specs.declared.names.Names.{Names}
use Rattle.sl_section_resolve.specs.declared.state.State.{State}
use Rattle.sl_spec_rules.specs.Names.{is_among}
use Rattle.sl_section_flat.specs.Sections as s
use Rattle.sl_section_flat.specs.Sections.{Step, Symbol, Term, bounded}
use Rattle.sl_section_forms.specs.Places.{is_build, is_export, is_macro_body}
use Rattle.sl_spec.specs.Tables as tables
use Rattle.sl_spec.specs.Tables.{Name}
use Rattle.sl_spec.specs.declared.tables.Tables.{Tables}
use Rattle.sl_faithful_formed.specs.Lengths.{built, step_built}

-- It neither builds nor exports.
abbrev pub StepIsQuiet : Step → Type 0
StepIsQuiet (s.build i) = ⊥
StepIsQuiet (s.export what) = ⊥
StepIsQuiet _ = ⊤

abbrev pub AreQuiet : List Step → Type 0
AreQuiet [] = ⊤
AreQuiet (a ∷ ss) = StepIsQuiet a × AreQuiet ss

quiet_both : (a b : List Step) → AreQuiet a → AreQuiet b → AreQuiet (a ++ b)
quiet_both [] b h k = k
quiet_both (x ∷ a) b h k = (h.0, quiet_both a b h.1 k)

quiet_if : (found : Bool) (a b : List Step) → AreQuiet a → AreQuiet b → AreQuiet (if found then a else b)
quiet_if true a b h k = h
quiet_if false a b h k = k

-- ---- what quiet steps give, and what stands behind them

one_built : (a : Step) → StepIsQuiet a → step_built a ≡ []
one_built (s.build i) h = absurd h
one_built (s.export what) h = refl
one_built _ h = refl

pub none_built : (a : List Step) → AreQuiet a → built a ≡ []
none_built [] h = refl
none_built (x ∷ a) h = ap (λ (l : List ℕ). l ++ built a) (one_built x h.0) ∙ none_built a h.1

-- It exports nothing.
abbrev pub StepIsSilent : Step → Type 0
StepIsSilent (s.export what) = ⊥
StepIsSilent _ = ⊤

abbrev pub AreSilent : List Step → Type 0
AreSilent [] = ⊤
AreSilent (a ∷ ss) = StepIsSilent a × AreSilent ss

one_silent : (a : Step) → StepIsQuiet a → StepIsSilent a
one_silent (s.build i) h = absurd h
one_silent (s.export what) h = absurd h
one_silent _ h = tt

all_silent : (a : List Step) → AreQuiet a → AreSilent a
all_silent [] h = tt
all_silent (x ∷ a) h = (one_silent x h.0, all_silent a h.1)

one_first : (a : Step) (rest : List Step) → StepIsSilent a → first_export (a ∷ rest) ≡ first_export rest
one_first (s.export what) rest h = absurd h
one_first _ rest h = refl

pub first_behind : (a b : List Step) → AreSilent a → first_export (a ++ b) ≡ first_export b
first_behind [] b h = refl
first_behind (x ∷ a) b h = one_first x (a ++ b) h.0 ∙ first_behind a b h.1

one_bare : (a : Step) (rest : List Step) → StepIsSilent a → ExportsAreBare rest → ExportsAreBare (a ∷ rest)
one_bare (s.export what) rest h k = absurd h
one_bare _ rest h k = k

pub bare_behind : (a b : List Step) → AreSilent a → ExportsAreBare b → ExportsAreBare (a ++ b)
bare_behind [] b h k = k
bare_behind (x ∷ a) b h k = one_bare x (a ++ b) h.0 (bare_behind a b h.1 k)

-- ---- statements that are no `build` and no `export`

abbrev pub is_quiet : Statement → Bool
is_quiet x = not (is_build x) && not (is_export x)

module _ (t : Tables) where
  local_quiet : (st : State) (size : Option ℕ) (value : Option Expression) → AreQuiet (local_steps t st size value)
  local_quiet st size None = (tt, tt)
  local_quiet st size (Some e) = (tt, (tt, tt))

  assign_quiet : (st : State) (a : Option Symbol) (e : Expression) → AreQuiet (assign_steps t st a e)
  assign_quiet st None e = local_quiet st None (Some e)
  assign_quiet st (Some a) e = (tt, tt)

  left_quiet : (st : State) (left : Left) (e : Expression) → AreQuiet (left_steps t st left e)
  left_quiet st (left_name w) e = assign_quiet st (symbol_named t st.names w) e
  left_quiet st (left_bits w l c) e = (tt, tt)
  left_quiet st (left_star form p) e = (tt, tt)

  goto_quiet : (st : State) (to : Dest) → AreQuiet (goto_step t st to ∷ [])
  goto_quiet st (direct to) = (tt, tt)
  goto_quiet st (computed e) = (tt, tt)

  call_quiet : (st : State) (to : Target) → AreQuiet (call_step t st to ∷ [])
  call_quiet st (calls p) = (tt, tt)
  call_quiet st (calls_computed e) = (tt, tt)

  -- What is known of calls: they are quiet, and the caller goes on with its own names.
  pub record CallsKeep (c : Calls) : Type 0 where
    pub quiet : (w : Name) (es : List Expression) (st : State) → AreQuiet (c.taken w es st)
    pub names : (w : Name) (es : List Expression) (st : State) → (c.after w es st).names ≡ st.names

  pub taken_quiet : (c : Calls) → CallsKeep c → (st : State) (x : Statement) → is_quiet x ≡ true
      → AreQuiet (taken t c st x)
  taken_quiet c k st (local w size value) is = local_quiet st (option_map bounded size) value
  taken_quiet c k st (declare w n e) is = local_quiet st (Some (bounded n)) (Some e)
  taken_quiet c k st (assign left e) is = left_quiet st left e
  taken_quiet c k st (goto to) is = goto_quiet st to
  taken_quiet c k st (branch e to) is = (tt, tt)
  taken_quiet c k st (call_to to) is = call_quiet st to
  taken_quiet c k st (return e) is = (tt, tt)
  taken_quiet c k st (build w) is = absurd (let e : ⊥ = cc in e)
  taken_quiet c k st (export what) is = absurd (let e : ⊥ = cc in e)
  taken_quiet c k st (invoke w es) is = k.quiet w es st
  taken_quiet c k st (label w) is = (tt, tt)

  build_silent : (a : Symbol) → AreSilent (build_steps a)
  build_silent (s.table i) = (tt, tt)
  build_silent _ = tt

  quiet_silent : (c : Calls) → CallsKeep c → (st : State) (x : Statement) → is_quiet x ≡ true
      → AreSilent (taken t c st x)
  quiet_silent c k st x is = all_silent (taken t c st x) (taken_quiet c k st x is)

  -- a statement that is no `export`
  pub taken_silent : (c : Calls) → CallsKeep c → (st : State) (x : Statement) → text.is_export x ≡ false
      → AreSilent (taken t c st x)
  taken_silent c k st (build w) is = build_silent (known_symbol t st.names w)
  taken_silent c k st (export what) is = absurd (true≢false is)
  taken_silent c k st (local w size value) is = quiet_silent c k st (local w size value) refl
  taken_silent c k st (declare w n e) is = quiet_silent c k st (declare w n e) refl
  taken_silent c k st (assign left e) is = quiet_silent c k st (assign left e) refl
  taken_silent c k st (goto to) is = quiet_silent c k st (goto to) refl
  taken_silent c k st (branch e to) is = quiet_silent c k st (branch e to) refl
  taken_silent c k st (call_to to) is = quiet_silent c k st (call_to to) refl
  taken_silent c k st (return e) is = quiet_silent c k st (return e) refl
  taken_silent c k st (invoke w es) is = quiet_silent c k st (invoke w es) refl
  taken_silent c k st (label w) is = quiet_silent c k st (label w) refl

  all_quiet : (c : Calls) → CallsKeep c → (st : State) (xs : List Statement) → is_macro_body xs ≡ true
      → AreQuiet (all_taken t c st xs)
  all_quiet c k st [] is = tt
  all_quiet c k st (x ∷ xs) is =
      let p = and_parts (is_quiet x) (is_macro_body xs) is in
      quiet_both (taken t c st x) (all_taken t c (after t c st x) xs) (taken_quiet c k st x p.0)
      (all_quiet c k (after t c st x) xs p.1)

  -- ---- operands that no `build` names

  one_unplaced : (b : Bool) (i : ℕ) → AreSilent (if b then s.build i ∷ [] else [])
  one_unplaced true i = (tt, tt)
  one_unplaced false i = tt

  silent_both : (a b : List Step) → AreSilent a → AreSilent b → AreSilent (a ++ b)
  silent_both [] b h k = k
  silent_both (x ∷ a) b h k = (h.0, silent_both a b h.1 k)

  pub unplaced_silent : (ws : List Name) (i : ℕ) (os : List tables.Operand) → AreSilent (unplaced ws i os)
  unplaced_silent ws i [] = tt
  unplaced_silent ws i (o ∷ os) =
      silent_both (unplaced_one ws i o) (unplaced ws (i + 1) os)
      (one_unplaced (is_table o.means && not (is_among ws o.name)) i) (unplaced_silent ws (i + 1) os)

  -- ---- calls

  userop_quiet : (o : Option ℕ) (ts : List Term) → AreQuiet (userop_steps o ts)
  userop_quiet None ts = tt
  userop_quiet (Some u) ts = (tt, tt)

  userops_keep : CallsKeep (userop_calls t)
  userops_keep = record {
    quiet = λ w es st. userop_quiet (userop_named t st.names.reach w) (terms_at t st.names st.next (arguments es));
    names = λ w es st. refl;
  }

  argument_quiet : (names : Names) (i : ℕ) (e : Expression) → AreQuiet (argument_steps t names i e)
  argument_quiet names i (named w) = tt
  argument_quiet names i (integer v) = tt
  argument_quiet names i _ = (tt, (tt, tt))

  given_quiet : (names : Names) (i : ℕ) (es : List Expression) → AreQuiet (given t names i es)
  given_quiet names i [] = tt
  given_quiet names i (e ∷ es) =
      quiet_both (argument_steps t names i e) (given t names (i + argument_variables e) es) (argument_quiet names i e)
      (given_quiet names (i + argument_variables e) es)

  -- Its body is one of a macro.
  abbrev pub IsMacro : Body → Type 0
  IsMacro m = is_macro_body (body_of m) ≡ true

  macro_keeps : (earlier : Calls) → CallsKeep earlier → (m : Body) → IsMacro m → CallsKeep (macro_calls t earlier m)
  macro_keeps earlier k m is = record {
    quiet = λ w es st. quiet_both (given t st.names st.next es) (all_taken t earlier (entered t st m es) (body_of m))
        (given_quiet st.names st.next es) (all_quiet earlier k (entered t st m es) (body_of m) is);
    names = λ w es st. refl;
  }

  if_names : (found : Bool) (a b : State) (names : Names) → a.names ≡ names → b.names ≡ names
      → (if found then a else b).names ≡ names
  if_names true a b names h k = h
  if_names false a b names h k = k

  module _ (macros : List Body) (are : AllByRecursion IsMacro macros) where
    with_macro_keeps : (n : ℕ) (m : Option Body) (c : Calls) → slice_get macros n ≡ m → CallsKeep c
        → CallsKeep (with_macro t macros n m c)
    with_macro_keeps n None c at k = k
    with_macro_keeps n (Some m) c at k =
        let this = macro_keeps c k m (all_at IsMacro macros n m are at) in
        record {
          quiet = λ w es st. quiet_if (is_call_of t macros n m w es) ((macro_calls t c m).taken w es st)
              (c.taken w es st) (this.quiet w es st) (k.quiet w es st);
          names = λ w es st. if_names (is_call_of t macros n m w es) ((macro_calls t c m).after w es st)
              (c.after w es st) st.names (this.names w es st) (k.names w es st);
        }

    pub calls_keep : (n : ℕ) → CallsKeep (calls_of t macros n)
    calls_keep zero = userops_keep
    calls_keep (suc n) = with_macro_keeps n (slice_get macros n) (calls_of t macros n) refl (calls_keep n)
