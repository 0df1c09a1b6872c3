-- The laws: calls are taken in, and are sections of their own; jumps go to the text.
use Rattle.std.proofs.Common.{◌≡◌, ℕ, zero, suc, ◌+◌, ◌<◌, ◌≤◌, ◌==◌, ◌&&◌, Bool, true, false, List, [], ◌∷◌, ◌++◌, Option, Some, None, refl, sym, ap, subst, ◌∙◌, append_assoc, arith}
use Rattle.std.specs.Prelude.{if◌then◌else◌, not, slice_get, unwrap_or}
use Rattle.std.specs.Str.{bytes_eq}
use Rattle.std.proofs.lemmas.Bool.Decides.{nat_tests}
use Rattle.sl_ast.specs.Trees.{Expression, to_label, to_operand, direct, computed}
use Rattle.sl_ast.specs.Trees.{Statement, local, declare, assign, goto, branch, call_to, return, build, export, invoke, label}
use Rattle.sl_meaning_calls.proofs.CallLemmas.{StatementUses, after_here, all_here, all_more, all_within, body_closed, calls_are, counts_on, given_uses, taken_uses}
use Rattle.sl_meaning_calls.proofs.LabelLemmas.{Differs, IsThere, behind_others, behind_there, no_labels, other_call, uses_joined, uses_more}
use Rattle.sl_meaning_calls.proofs.LocalLemmas.{all_declare, calls_in_a_row}
use Rattle.sl_meaning_calls.proofs.StretchLemmas.{Any, IsOwn, Uses, children_fall, stretch_is_section, uses_both}
use Rattle.sl_meaning_calls.specs.Laws.{CallsAreSections, CallsAreTakenIn, CallsHaveNewLocals, CountsCalls, DeclareWithin, HaveNoLabels, JumpsGoToText, KeepLabels, SectionsAreReadSo, callee, callee_or, called_steps, steps_at}
use Rattle.sl_meaning_sections.specs.Nodes.{Operands, child_runs}
use Rattle.sl_meaning_sections.specs.References.{Setting, State}
use Rattle.sl_meaning_sections.specs.Statements.{behind, section_runs, then_do}
use Rattle.sl_meaning_sections.specs.Values.{Frame}
use Rattle.sl_section_flat.specs.Sections as s
use Rattle.sl_section_flat.specs.Sections.{Label, Step}
use Rattle.sl_section_resolve.specs.Macros.{Body}
use Rattle.sl_section_resolve.specs.Steps.{Calls, after, all_after, all_taken, body_of, calls_of, entered, given, is_call_of, is_table, label_here, macro_calls, taken, unplaced, with_macro}
use Rattle.sl_section_resolve.specs.declared.state.State as read
use Rattle.sl_spec_rules.specs.Names.{is_among}
use Rattle.sl_spec.specs.Tables.{Name, Operand}
use Rattle.sl_spec.specs.declared.tables.Tables.{Tables}

module _ (t : Tables) (macros : List Body) where
  -- ---- which macro is called

  -- it is one of the macros, and the call is taken as one of it
  abbrev IsCalled : (n : ℕ) → Calls → (w : Name) → List Expression → (i : ℕ) → Body → Type 0
  IsCalled n c w es i m = (slice_get macros i ≡ Some m)
      × ((st : read.State) → c.taken w es st ≡ (macro_calls t (calls_of t macros i) m).taken w es st)

  some_same : (n i : ℕ) (x m : Body) → ◌≡◌ {A = Option (ℕ × Body)} (Some (n, x)) (Some (i, m)) → (n ≡ i) × (x ≡ m)
  some_same n i x m e =
      (ap (λ (o : Option (ℕ × Body)). (unwrap_or o (n, x)).0) e, ap (λ (o : Option (ℕ × Body)). (unwrap_or o (n, x)).1) e)

  called_if : (n : ℕ) (x : Body) → slice_get macros n ≡ Some x → (w : Name) (es : List Expression) (i : ℕ) (m : Body) (b : Bool)
      → (if b then Some (n, x) else callee t macros n w es) ≡ Some (i, m)
      → (callee t macros n w es ≡ Some (i, m) → IsCalled n (calls_of t macros n) w es i m)
      → (slice_get macros i ≡ Some m)
      × ((st : read.State) → (if b then (macro_calls t (calls_of t macros n) x).taken w es st else (calls_of t macros n).taken w es st)
      ≡ (macro_calls t (calls_of t macros i) m).taken w es st)
  called_if n x is w es i m true e before =
      let same = some_same n i x m e in
      subst (λ (k : ℕ). (slice_get macros k ≡ Some m)
      × ((st : read.State) → (macro_calls t (calls_of t macros n) x).taken w es st ≡ (macro_calls t (calls_of t macros k) m).taken w es st))
      same.0
      (subst (λ (y : Body). (slice_get macros n ≡ Some y)
      × ((st : read.State) → (macro_calls t (calls_of t macros n) x).taken w es st ≡ (macro_calls t (calls_of t macros n) y).taken w es st))
      same.1 (is, λ st. refl))
  called_if n x is w es i m false e before = before e

  called_by : (n : ℕ) (o : Option Body) → slice_get macros n ≡ o → (w : Name) (es : List Expression) (i : ℕ) (m : Body)
      → callee_or t macros n o w es (callee t macros n w es) ≡ Some (i, m)
      → (callee t macros n w es ≡ Some (i, m) → IsCalled n (calls_of t macros n) w es i m)
      → IsCalled n (with_macro t macros n o (calls_of t macros n)) w es i m
  called_by n None is w es i m e before = before e
  called_by n (Some x) is w es i m e before = called_if n x is w es i m (is_call_of t macros n x w es) e before

  called : (n : ℕ) (w : Name) (es : List Expression) (i : ℕ) (m : Body) → callee t macros n w es ≡ Some (i, m)
      → IsCalled n (calls_of t macros n) w es i m
  called zero w es i m e = absurd (let no : ⊥ = cc in no)
  called (suc n) w es i m e = called_by n (slice_get macros n) refl w es i m e (called n w es i m)

  -- ---- statements before others

  taken_both : (c : Calls) (xs ys : List Statement) (st : read.State)
      → all_taken t c st (xs ++ ys) ≡ all_taken t c st xs ++ all_taken t c (all_after t c st xs) ys
  taken_both c [] ys st = refl
  taken_both c (x ∷ xs) ys st =
      ap (λ (l : List Step). taken t c st x ++ l) (taken_both c xs ys (after t c st x))
      ∙ sym (append_assoc (taken t c st x) (all_taken t c (after t c st x) xs) (all_taken t c (all_after t c st (x ∷ xs)) ys))

  -- a call among statements
  module _ (n i : ℕ) (front : List Step) (st : read.State) (before later : List Statement) (w : Name) (es : List Expression)
      (m : Body) (is : callee t macros n w es ≡ Some (i, m)) where
    abbrev c : Calls
    c = calls_of t macros n

    abbrev at : read.State
    at = all_after t c st before

    abbrev first : List Step
    first = given t at.names at.next es

    abbrev inner : List Step
    inner = called_steps t macros i m es at

    abbrev rest : List Step
    rest = all_taken t c (after t c at (invoke w es)) later

    abbrev ahead : List Step
    ahead = (front ++ all_taken t c st before) ++ first

    taken_in : front ++ all_taken t c st (before ++ invoke w es ∷ later) ≡ ahead ++ (inner ++ rest)
    taken_in =
        ap (λ (l : List Step). front ++ l) (taken_both c before (invoke w es ∷ later) st)
        ∙ ap (λ (l : List Step). front ++ (all_taken t c st before ++ (l ++ rest))) ((called n w es i m is).1 at)
        ∙ sym (append_assoc front (all_taken t c st before) ((first ++ inner) ++ rest))
        ∙ ap (λ (l : List Step). (front ++ all_taken t c st before) ++ l) (append_assoc first inner rest)
        ∙ sym (append_assoc (front ++ all_taken t c st before) first (inner ++ rest))

    module _ (kept : KeepLabels macros) (none : HaveNoLabels front) (counts : CountsCalls st) where
      abbrev Before : Label → Type 0
      Before x = x.call < at.calls

      counted_on : CountsCalls at
      counted_on =
          let here = all_here t c (calls_are t macros kept n) before st in
          let more = all_more t c (calls_are t macros kept n) before st in
          omega (arith, here, more, counts)

      ahead_before : Uses Before Any ahead
      ahead_before =
          uses_both Before Any (front ++ all_taken t c st before) first
          (uses_both Before Any front (all_taken t c st before)
          (uses_more (λ l no. absurd no) (λ l h. h) front (no_labels front none))
          (uses_more (λ l h. h.1) (λ l h. tt) (all_taken t c st before)
          (all_within t c (calls_are t macros kept n) 0 at.calls before st (omega arith) counts (omega arith))))
          (given_uses t Before Any at.names at.next es)

      -- a jump of the macro's statements stays among them
      stays : (l : Label) → (at.calls ≤ l.call) × (l.call < (all_after t (calls_of t macros i) (entered t at m es) (body_of m)).calls)
          → IsThere l inner → behind l (front ++ all_taken t c st (before ++ invoke w es ∷ later)) ≡ behind l inner ++ rest
      stays l within there =
          ap (λ (all : List Step). behind l all) taken_in
          ∙ behind_others l ahead (inner ++ rest)
          (uses_more (λ x under. other_call x l (λ same. omega (arith, same, under, within.0))) (λ x h. tt) ahead ahead_before)
          ∙ behind_there l inner rest there

      abbrev All : List Step
      All = front ++ all_taken t c st (before ++ invoke w es ∷ later)

      module _ (g : Setting) (f : Frame) (os : Operands) (top : ℕ) where
        own : Uses Any (IsOwn g f (child_runs g top os) (λ k b now left. children_fall g os top k b now left) All inner rest) inner
        own =
            let within = all_within t (calls_of t macros i) (calls_are t macros kept i) at.calls
            (all_after t (calls_of t macros i) (entered t at m es) (body_of m)).calls (body_of m) (entered t at m es)
            (omega arith) (omega arith) (omega arith) in
            let closed = body_closed t (calls_of t macros i) (calls_are t macros kept i) (body_of m) (entered t at m es)
            (kept i m (called n w es i m is).0) in
            uses_joined (λ l h k. tt) (λ l h k. stays l h k) inner within closed

        is_section : (most : ℕ) (now : State) → now.left ≤ most
            → section_runs g f most (child_runs g top os) All (inner ++ rest) now
            ≡ then_do (section_runs g f most (child_runs g top os) inner inner now)
            (section_runs g f most (child_runs g top os) All rest)
        is_section most now few =
            stretch_is_section g f (child_runs g top os) (λ k b now left. children_fall g os top k b now left)
            All inner rest own most now few

  -- ---- jumps

  module _ (n : ℕ) (front : List Step) (start : read.State) (kept : KeepLabels macros) (w : Name) where
    abbrev d : Calls
    d = calls_of t macros n

    abbrev l : Label
    l = label_here start w

    placed : (xs : List Statement) (st : read.State) (v : Name) → (st.names.here == start.names.here) ≡ true
        → behind l (all_taken t d st xs) ≡ steps_at t macros n front start w st xs
        → (if (st.names.here == start.names.here) && bytes_eq v w then all_taken t d st xs else behind l (all_taken t d st xs))
        ≡ (if bytes_eq v w then all_taken t d st xs else steps_at t macros n front start w st xs)
    placed xs st v same rest =
        ap (λ (b : Bool). if b && bytes_eq v w then all_taken t d st xs else behind l (all_taken t d st xs)) same
        ∙ ap (λ (r : List Step). if bytes_eq v w then all_taken t d st xs else r) rest

    passed : (x : Statement) (xs : List Statement) (st : read.State) → StatementUses (Differs l) Any d st x
        → behind l (all_taken t d (after t d st x) xs) ≡ steps_at t macros n front start w (after t d st x) xs
        → behind l (all_taken t d st (x ∷ xs)) ≡ steps_at t macros n front start w (after t d st x) xs
    passed x xs st uses rest =
        behind_others l (taken t d st x) (all_taken t d (after t d st x) xs) (taken_uses t (Differs l) Any d st x uses) ∙ rest

    on : (x : Statement) (xs : List Statement) (st : read.State) → st.names.here ≡ start.names.here → CountsCalls st
        → ((st : read.State) → st.names.here ≡ start.names.here → CountsCalls st
        → behind l (all_taken t d st xs) ≡ steps_at t macros n front start w st xs)
        → behind l (all_taken t d (after t d st x) xs) ≡ steps_at t macros n front start w (after t d st x) xs
    on x xs st same counts rest =
        rest (after t d st x) (after_here t d (calls_are t macros kept n) st x ∙ same)
        (counts_on t d (calls_are t macros kept n) st x counts)

    goes : (xs : List Statement) (st : read.State) → st.names.here ≡ start.names.here → CountsCalls st
        → behind l (all_taken t d st xs) ≡ steps_at t macros n front start w st xs
    goes [] st same counts = refl
    goes (label v ∷ xs) st same counts =
        placed xs st v (grind (arith, nat_tests, same)) (goes xs st same counts)
    goes (local v size value ∷ xs) st same counts =
        passed (local v size value) xs st tt (on (local v size value) xs st same counts (goes xs))
    goes (declare v k e ∷ xs) st same counts = passed (declare v k e) xs st tt (on (declare v k e) xs st same counts (goes xs))
    goes (assign left e ∷ xs) st same counts = passed (assign left e) xs st tt (on (assign left e) xs st same counts (goes xs))
    goes (goto (direct (to_label v)) ∷ xs) st same counts =
        passed (goto (direct (to_label v))) xs st tt (on (goto (direct (to_label v))) xs st same counts (goes xs))
    goes (goto (direct (to_operand o)) ∷ xs) st same counts =
        passed (goto (direct (to_operand o))) xs st tt (on (goto (direct (to_operand o))) xs st same counts (goes xs))
    goes (goto (computed e) ∷ xs) st same counts =
        passed (goto (computed e)) xs st tt (on (goto (computed e)) xs st same counts (goes xs))
    goes (branch e (to_label v) ∷ xs) st same counts =
        passed (branch e (to_label v)) xs st tt (on (branch e (to_label v)) xs st same counts (goes xs))
    goes (branch e (to_operand o) ∷ xs) st same counts =
        passed (branch e (to_operand o)) xs st tt (on (branch e (to_operand o)) xs st same counts (goes xs))
    goes (call_to to ∷ xs) st same counts = passed (call_to to) xs st tt (on (call_to to) xs st same counts (goes xs))
    goes (return e ∷ xs) st same counts = passed (return e) xs st tt (on (return e) xs st same counts (goes xs))
    goes (build v ∷ xs) st same counts = passed (build v) xs st tt (on (build v) xs st same counts (goes xs))
    goes (export what ∷ xs) st same counts = passed (export what) xs st tt (on (export what) xs st same counts (goes xs))
    goes (invoke v es ∷ xs) st same counts =
        passed (invoke v es) xs st
        (uses_more (λ x h. other_call x l (λ alike. omega (arith, alike, h.0, same, counts))) (λ x h. tt) (d.taken v es st)
        ((calls_are t macros kept n).within v es st))
        (on (invoke v es) xs st same counts (goes xs))

-- ---- the laws

pub calls_are_taken_in : CallsAreTakenIn
calls_are_taken_in t macros n i front st before later w es m is = taken_in t macros n i front st before later w es m is

pub calls_are_sections : CallsAreSections
calls_are_sections g f os most top t macros n i front st before later w es m now kept none counts is few =
    is_section t macros n i front st before later w es m is kept none counts g f os top most now few

pub jumps_go_to_text : JumpsGoToText
jumps_go_to_text t macros n front st xs w kept none counts =
    behind_others (label_here st w) front (all_taken t (calls_of t macros n) st xs)
    (uses_more (λ x no. absurd no) (λ x h. tt) front (no_labels front none))
    ∙ goes t macros n front st kept w xs st refl counts

-- what is built before statements is no label
one_front : (i : ℕ) (b : Bool) (ss : List Step) → HaveNoLabels ss
    → HaveNoLabels ((if b then s.build i ∷ [] else []) ++ ss)
one_front i true ss h = h
one_front i false ss h = h

fronts : (names : List Name) (i : ℕ) (os : List Operand) → HaveNoLabels (unplaced names i os)
fronts names i [] = tt
fronts names i (o ∷ os) =
    one_front i (is_table o.means && not (is_among names o.name)) (unplaced names (i + 1) os)
    (fronts names (i + 1) os)

pub sections_are_read_so : SectionsAreReadSo
sections_are_read_so t macros = record {
  sections = λ reach os body. refl;
  fronts = fronts;
  begin = λ reach os. omega arith;
  called = λ i m es st. refl;
  enter = λ m es st. omega arith;
}

-- where reading stands after statements
after_both : (t : Tables) (c : Calls) (xs ys : List Statement) (st : read.State)
    → all_after t c st (xs ++ ys) ≡ all_after t c (all_after t c st xs) ys
after_both t c [] ys st = refl
after_both t c (x ∷ xs) ys st = after_both t c xs ys (after t c st x)

pub calls_have_new_locals : CallsHaveNewLocals
calls_have_new_locals t macros n i front st before later w es m is =
    let c = calls_of t macros n in
    let row = calls_in_a_row t macros n in
    let at = all_after t c st before in
    let behind_it = after t c at (invoke w es) in
    let one = after_both t c before (invoke w es ∷ []) st in
    let all = after_both t c before (invoke w es ∷ later) st in (
      all_declare t c row before st,
      subst (λ (z : read.State). DeclareWithin at.next z.next (given t at.names at.next es ++ called_steps t macros i m es at))
          (sym one)
          (subst (DeclareWithin at.next behind_it.next) ((called t macros n w es i m is).1 at) (row.declare w es at)),
      subst (λ (z : read.State). DeclareWithin z.next (all_after t c st (before ++ invoke w es ∷ later)).next
          (all_taken t c behind_it later)) (sym one)
          (subst (λ (z : read.State). DeclareWithin behind_it.next z.next (all_taken t c behind_it later)) (sym all)
          (all_declare t c row later behind_it)),
    )
