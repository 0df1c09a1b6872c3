-- step: a section that is being read, with the calls of macros in which reading stands.
use Rattle.std.specs.Prelude.{◌≡◌, ℕ, ◌+◌, ◌==◌, List, [], ◌∷◌, ◌++◌, drop, length}
use Rattle.std.specs.Prelude.{slice_get, Option, Some, None, if◌then◌else◌}
use Rattle.sl_ast.specs.Trees.{Expression, Statement, local, declare, assign, goto, branch, call_to}
use Rattle.sl_ast.specs.Trees.{return, build, export, invoke, label}
use Rattle.sl_ast.specs.Views.{statements_of}
use Rattle.sl_section_flat.specs.Sections.{Step}
use Rattle.sl_section_flat.specs.Views.{steps_of}
use Rattle.sl_spec.specs.Named.{index_named}
use Rattle.sl_spec.specs.Tables.{Name}
use Rattle.sl_spec.specs.declared.tables.Tables.{Tables}
use Rattle.sl_section_terms.specs.Scopes.{if_below}
use Rattle.sl_section_resolve.specs.Seen.{Adds}
use Rattle.sl_section_resolve.specs.Steps.{Calls, after, all_after, all_taken, body_of, calls_of, entered}
use Rattle.sl_section_resolve.specs.Steps.{given, macro_name, parameters_of, taken, userop_calls}
use Rattle.sl_section_resolve.specs.Macros.{Body}
use Rattle.sl_section_terms.specs.declared.names.Names.{Names}
use Rattle.sl_section_resolve.specs.declared.state.State.{State}
use Rattle.sl_section_resolve.specs.declared.work.Frame.{Frame}
use Rattle.sl_section_resolve.specs.declared.work.Work.{Work}

-- ---- which macro a statement calls

-- the macro of number i, where it has as many parameters as there are arguments
abbrev pub if_takes : (i : ℕ) → Option Body → List Expression → Option ℕ
if_takes i None es = None
if_takes i (Some m) es = if length (parameters_of m) == length es then Some i else None

abbrev pub taking : List Body → Option ℕ → List Expression → Option ℕ
taking macros None es = None
taking macros (Some i) es = if_takes i (slice_get macros i) es

-- the macro that a call names, where the first n are known
abbrev pub called_macro : List Body → ℕ → Name → List Expression → Option ℕ
called_macro macros n w es = taking macros (if_below n (index_named macro_name w macros)) es

abbrev pub statement_macro : List Body → ℕ → Statement → Option ℕ
statement_macro macros n (invoke w es) = called_macro macros n w es
statement_macro macros n (local w size value) = None
statement_macro macros n (declare w k e) = None
statement_macro macros n (assign left e) = None
statement_macro macros n (goto to) = None
statement_macro macros n (branch e to) = None
statement_macro macros n (call_to to) = None
statement_macro macros n (return e) = None
statement_macro macros n (build w) = None
statement_macro macros n (export what) = None
statement_macro macros n (label w) = None

-- ---- what is left to read

-- all steps, and how many size variables they have
pub record Outcome : Type 0 where
  pub steps : List Step
  pub next : ℕ

abbrev pub behind : List Step → Outcome → Outcome
behind ss o = record { steps = ss ++ o.steps; next = o.next }

abbrev pub nothing_left : ℕ → ℕ → Outcome
nothing_left next calls = record { steps = []; next = next }

-- reading goes on with these names
abbrev pub resumed : Names → (next calls : ℕ) → State
resumed names next calls = record { names = names; next = next; calls = calls }

-- the statements of a frame that are left
abbrev pub left_in : Frame → List Statement
left_in f = statements_of (drop f.at f.body.now)

-- the frame behind a statement
abbrev pub gone_on : Frame → Names → Frame
gone_on f names = record f { names = names; at = f.at + 1 }

module _ (t : Tables) (macros : List Body) where
  -- statements, and then what is owed behind them
  abbrev pub then_owed : Calls → State → List Statement → (ℕ → ℕ → Outcome) → Outcome
  then_owed c st xs k = behind (all_taken t c st xs)
      (k (all_after t c st xs).next (all_after t c st xs).calls)

  abbrev pub frame_owes : Frame → (ℕ → ℕ → Outcome) → ℕ → ℕ → Outcome
  frame_owes f k next calls =
      then_owed (calls_of t macros f.limit) (resumed f.names next calls) (left_in f) k

  -- what is owed by frames, of which the last one is read first
  abbrev pub owed_from : (ℕ → ℕ → Outcome) → List Frame → ℕ → ℕ → Outcome
  owed_from k [] = k
  owed_from k (f ∷ fs) = owed_from (frame_owes f k) fs

  abbrev pub owed : List Frame → ℕ → ℕ → Outcome
  owed fs = owed_from nothing_left fs

  -- the steps that are there, and those that are owed
  abbrev pub outcome : Work → Outcome
  outcome w = behind (steps_of w.steps.items) (owed w.frames.items w.next w.calls)

  -- the same with a frame that was taken off
  abbrev pub outcome_with : Frame → Work → Outcome
  outcome_with f w = behind (steps_of w.steps.items)
      (frame_owes f (owed w.frames.items) w.next w.calls)

-- where a frame is read
abbrev pub state_in : Frame → Work → State
state_in f w = resumed f.names w.next w.calls

-- A statement of the frame was read, which calls no macro.
pub record GoesOn (t : Tables) (f : Frame) (old : Work) (x : Statement) (new : Work) : Type 0 where
  pub frames : new.frames.items ≡ old.frames.items
      ++ gone_on f (after t (userop_calls t) (state_in f old) x).names ∷ []
  pub steps : Adds old.steps.items new.steps.items (taken t (userop_calls t) (state_in f old) x)
  pub next : new.next ≡ (after t (userop_calls t) (state_in f old) x).next
  pub calls : new.calls ≡ (after t (userop_calls t) (state_in f old) x).calls

-- A call of a macro, the one of number i, has begun: its frame, and the arguments' steps.
pub record Begins (t : Tables) (outer : Names) (old : Work) (m : Body) (i : ℕ)
    (es : List Expression) (inner : Frame) (new : Work) : Type 0 where
  pub frames : new.frames.items ≡ old.frames.items
  pub names : inner.names ≡ (entered t (resumed outer old.next old.calls) m es).names
  pub limit : inner.limit ≡ i
  pub left : left_in inner ≡ body_of m
  pub steps : Adds old.steps.items new.steps.items (given t outer old.next es)
  pub next : new.next ≡ (entered t (resumed outer old.next old.calls) m es).next
  pub calls : new.calls ≡ (entered t (resumed outer old.next old.calls) m es).calls
