-- law: a macro's statements, which a flat section takes in where the macro is called, do what they
-- do as a section of their own; and a jump goes to what follows its label in the text.
use Rattle.std.specs.Prelude.{◌≡◌, ℕ, zero, suc, ◌<◌, ◌≤◌, true, List, [], ◌∷◌, ◌++◌, ⊤}
use Rattle.std.specs.Prelude.{Option, None, Some, Ok, fold, slice_get, if◌then◌else◌}
use Rattle.std.specs.Str.{bytes_eq}
use Rattle.sl_ast.specs.Trees.{Expression, Item, Statement, invoke, label}
use Rattle.sl_bind.specs.Verdict.{taken}
use Rattle.sl_meaning_sections.specs.Nodes.{Operands, child_runs}
use Rattle.sl_meaning_sections.specs.References.{Setting, State}
use Rattle.sl_meaning_sections.specs.Statements.{behind, section_runs, then_do}
use Rattle.sl_meaning_sections.specs.Values.{Frame}
use Rattle.sl_section_all.specs.Scopes.{scopes_of}
use Rattle.sl_section_flat.specs.Sections as s
use Rattle.sl_section_flat.specs.Sections.{Step}
use Rattle.sl_section_forms.specs.Labels.{has_labels}
use Rattle.sl_section_resolve.specs.Macros.{Body}
use Rattle.sl_section_resolve.specs.Steps.{Calls, after, all_after, all_taken, body_of, calls_of}
use Rattle.sl_section_resolve.specs.Steps.{entered, given, is_call_of, label_here, opening}
use Rattle.sl_section_resolve.specs.Steps.{section_steps, unplaced, with_built}
use Rattle.sl_section_resolve.specs.declared.state.State as read
use Rattle.sl_section_terms.specs.declared.reach.Reach.{Reach}
use Rattle.sl_spec.specs.Tables.{Name, Operand}
use Rattle.sl_spec.specs.declared.tables.Tables.{Tables}

-- The steps place no label, as those before the statements of a section, which build operands.
abbrev pub HaveNoLabels : List Step → Type 0
HaveNoLabels [] = ⊤
HaveNoLabels (s.label l ∷ ss) = ⊥
HaveNoLabels (_ ∷ ss) = HaveNoLabels ss

-- Each macro has its labels once, and each one to which it jumps, as rule 28 says.
abbrev pub KeepLabels : List Body → Type 0
KeepLabels macros = (k : ℕ) (m : Body) → slice_get macros k ≡ Some m → has_labels (body_of m) ≡ true

-- Each local that the steps declare has a number from `low` to below `high`.
abbrev pub DeclareWithin : (low high : ℕ) → List Step → Type 0
DeclareWithin low high [] = ⊤
DeclareWithin low high (s.declare x n ∷ ss) =
    ((low ≤ x) × (x < high)) × DeclareWithin low high ss
DeclareWithin low high (_ ∷ ss) = DeclareWithin low high ss

-- The number of a call is new: it is above that of the call in which reading stands.
abbrev pub CountsCalls : read.State → Type 0
CountsCalls st = st.names.here < st.calls

module _ (t : Tables) (macros : List Body) where
  -- the macro of number n, where these words call it, or else the one that is found before
  abbrev pub callee_or : ℕ → Option Body → Name → List Expression → Option (ℕ × Body)
      → Option (ℕ × Body)
  callee_or n None w es earlier = earlier
  callee_or n (Some m) w es earlier = if is_call_of t macros n m w es then Some (n, m) else earlier

  -- the macro that is called, with its number, where the first n are known
  abbrev pub callee : ℕ → Name → List Expression → Option (ℕ × Body)
  callee zero w es = None
  callee (suc n) w es = callee_or n (slice_get macros n) w es (callee n w es)

  -- The statements of a macro, where it is called: the macros before it are known to it, and its
  -- parameters stand for what the arguments do.
  abbrev pub called_steps : ℕ → Body → List Expression → read.State → List Step
  called_steps i m es st = all_taken t (calls_of t macros i) (entered t st m es) (body_of m)

  -- ---- by what the first n macros are, and the steps before the statements
  module _ (n : ℕ) (front : List Step) (st : read.State) where
    abbrev pub calls : Calls
    calls = calls_of t macros n

    -- the steps of statements
    abbrev pub steps : List Statement → List Step
    steps xs = front ++ all_taken t calls st xs

    -- where reading stands before a call, and the steps of what follows it
    abbrev pub state_at : List Statement → read.State
    state_at before = all_after t calls st before

    abbrev pub steps_after : List Statement → Statement → List Statement → List Step
    steps_after before x later = all_taken t calls (after t calls (state_at before) x) later

    -- what follows a label in the text
    abbrev pub steps_at : Name → read.State → List Statement → List Step
    steps_at w at [] = []
    steps_at w at (label v ∷ xs) =
        if bytes_eq v w then all_taken t calls at xs else steps_at w at xs
    steps_at w at (x ∷ xs) = steps_at w (after t calls at x) xs

-- ---- the laws

-- The steps of a section are such: before its statements operands are built, and it is call 0. And
-- so are the statements of a macro where it is called, under the number of the call.
pub record AreReadSo (t : Tables) (macros : List Body) : Type 0 where
  pub sections : (reach : Reach) (os : List Operand) (body : List Statement)
      → section_steps t macros reach os body
      ≡ steps t macros reach.macros (unplaced (fold with_built [] body) 0 os)
      (opening t reach os) body
  pub fronts : (names : List Name) (i : ℕ) (os : List Operand) → HaveNoLabels (unplaced names i os)
  pub begin : (reach : Reach) (os : List Operand) → CountsCalls (opening t reach os)
  pub called : (i : ℕ) (m : Body) (es : List Expression) (st : read.State)
      → called_steps t macros i m es st ≡ steps t macros i [] (entered t st m es) (body_of m)
  pub enter : (m : Body) (es : List Expression) (st : read.State) → CountsCalls (entered t st m es)

abbrev pub SectionsAreReadSo : Type 0
SectionsAreReadSo = (t : Tables) (macros : List Body) → AreReadSo t macros

-- The macros of a text that keeps rules 1 to 37 keep their labels.
abbrev pub TakenKeepLabels : Type 0
TakenKeepLabels = (items : List Item) (t : Tables) → taken items ≡ Ok t
    → KeepLabels (scopes_of items).macros

-- A call is the values of its arguments, and then the statements of the macro.
abbrev pub CallsAreTakenIn : Type 0
CallsAreTakenIn = (t : Tables) (macros : List Body) (n i : ℕ) (front : List Step)
    (st : read.State) (before later : List Statement) (w : Name) (es : List Expression) (m : Body)
    → callee t macros n w es ≡ Some (i, m)
    → steps t macros n front st (before ++ invoke w es ∷ later)
    ≡ (steps t macros n front st before
    ++ given t (state_at t macros n front st before).names
    (state_at t macros n front st before).next es)
    ++ (called_steps t macros i m es (state_at t macros n front st before)
    ++ steps_after t macros n front st before (invoke w es) later)

-- These do what they do as a section of their own, in the frame of the caller; then what follows
-- the call is done.
abbrev pub CallsAreSections : Type 0
CallsAreSections = (g : Setting) (f : Frame) (os : Operands) (most top : ℕ)
    (t : Tables) (macros : List Body) (n i : ℕ) (front : List Step)
    (st : read.State) (before later : List Statement) (w : Name) (es : List Expression) (m : Body)
    (now : State)
    → KeepLabels macros → HaveNoLabels front → CountsCalls st
    → callee t macros n w es ≡ Some (i, m) → now.left ≤ most
    → section_runs g f most (child_runs g top os)
    (steps t macros n front st (before ++ invoke w es ∷ later))
    (called_steps t macros i m es (state_at t macros n front st before)
    ++ steps_after t macros n front st before (invoke w es) later) now
    ≡ then_do (section_runs g f most (child_runs g top os)
    (called_steps t macros i m es (state_at t macros n front st before))
    (called_steps t macros i m es (state_at t macros n front st before)) now)
    (section_runs g f most (child_runs g top os)
    (steps t macros n front st (before ++ invoke w es ∷ later))
    (steps_after t macros n front st before (invoke w es) later))

-- A jump goes to what follows its label among the statements in which it is written, and into no
-- call of a macro.
abbrev pub JumpsGoToText : Type 0
JumpsGoToText = (t : Tables) (macros : List Body) (n : ℕ) (front : List Step) (st : read.State)
    (xs : List Statement) (w : Name)
    → KeepLabels macros → HaveNoLabels front → CountsCalls st
    → behind (label_here st w) (steps t macros n front st xs) ≡ steps_at t macros n front st w st xs

-- The locals of a call, the values of arguments among them, are new ones: those before have lower
-- numbers, and those after it have higher ones.
abbrev pub CallsHaveNewLocals : Type 0
CallsHaveNewLocals = (t : Tables) (macros : List Body) (n i : ℕ) (front : List Step)
    (st : read.State) (before later : List Statement) (w : Name) (es : List Expression) (m : Body)
    → callee t macros n w es ≡ Some (i, m)
    → DeclareWithin st.next (state_at t macros n front st before).next
    (all_taken t (calls t macros n front st) st before)
    × DeclareWithin (state_at t macros n front st before).next
    (state_at t macros n front st (before ++ invoke w es ∷ [])).next
    (given t (state_at t macros n front st before).names
    (state_at t macros n front st before).next es
    ++ called_steps t macros i m es (state_at t macros n front st before))
    × DeclareWithin (state_at t macros n front st (before ++ invoke w es ∷ [])).next
    (state_at t macros n front st (before ++ invoke w es ∷ later)).next
    (steps_after t macros n front st before (invoke w es) later)
