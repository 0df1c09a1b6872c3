-- The locals that statements declare, the calls among them, have numbers in a row.
use Rattle.std.proofs.Common.{◌≡◌, ℕ, zero, suc, ◌+◌, ◌<◌, ◌≤◌, Bool, true, false, List, [], ◌∷◌, ◌++◌, Option, Some, None, slice_get, refl, arith}
use Rattle.std.specs.Prelude.{if◌then◌else◌, ⊤}
use Rattle.sl_ast.specs.Trees.{Expression, integer, named, paren, call, sized, dropped, bits, prefix, star, binary}
use Rattle.sl_ast.specs.Trees.{left_name, left_bits, left_star, direct, computed, calls, calls_computed}
use Rattle.sl_ast.specs.Trees.{Statement, local, declare, assign, goto, branch, call_to, return, build, export, invoke, label}
use Rattle.sl_meaning_calls.specs.Laws.{DeclareWithin}
use Rattle.sl_section_flat.specs.Sections as s
use Rattle.sl_section_flat.specs.Sections.{Step, Symbol, Term}
use Rattle.sl_section_resolve.specs.Macros.{Body}
use Rattle.sl_section_resolve.specs.Steps.{Calls, after, all_after, all_taken, argument_steps, argument_variables, assign_after, assign_steps, body_of, build_steps, calls_of, entered, given, given_variables, is_call_of, local_after, local_steps, macro_calls, symbol_here, taken, userop_calls, userop_steps, with_macro}
use Rattle.sl_section_resolve.specs.declared.state.State as read
use Rattle.sl_section_terms.specs.Scopes.{symbol_named}
use Rattle.sl_section_terms.specs.declared.names.Names.{Names}
use Rattle.sl_spec.specs.Tables.{Name}
use Rattle.sl_spec.specs.declared.tables.Tables.{Tables}

-- ---- of steps

module _ (low high : ℕ) where
  -- by one step, and those after it
  abbrev Declares : Step → Type 0
  Declares (s.declare x n) = (low ≤ x) × (x < high)
  Declares _ = ⊤

  first_of : (a : Step) (ss : List Step) → DeclareWithin low high (a ∷ ss) → Declares a × DeclareWithin low high ss
  first_of (s.declare x n) ss h = h
  first_of (s.set a t) ss h = (tt, h)
  first_of (s.set_bits a l k t) ss h = (tt, h)
  first_of (s.store space n pointer x t) ss h = (tt, h)
  first_of (s.run_user op ts) ss h = (tt, h)
  first_of (s.build i) ss h = (tt, h)
  first_of (s.label l) ss h = (tt, h)
  first_of (s.branch to) ss h = (tt, h)
  first_of (s.branch_if t to) ss h = (tt, h)
  first_of (s.branch_to t) ss h = (tt, h)
  first_of (s.call a) ss h = (tt, h)
  first_of (s.call_to t) ss h = (tt, h)
  first_of (s.return t) ss h = (tt, h)
  first_of (s.export what) ss h = (tt, h)

  then_more : (a : Step) (ss : List Step) → Declares a → DeclareWithin low high ss → DeclareWithin low high (a ∷ ss)
  then_more (s.declare x n) ss own h = (own, h)
  then_more (s.set a t) ss own h = h
  then_more (s.set_bits a l k t) ss own h = h
  then_more (s.store space n pointer x t) ss own h = h
  then_more (s.run_user op ts) ss own h = h
  then_more (s.build i) ss own h = h
  then_more (s.label l) ss own h = h
  then_more (s.branch to) ss own h = h
  then_more (s.branch_if t to) ss own h = h
  then_more (s.branch_to t) ss own h = h
  then_more (s.call a) ss own h = h
  then_more (s.call_to t) ss own h = h
  then_more (s.return t) ss own h = h
  then_more (s.export what) ss own h = h

wider : (low high low' high' : ℕ) → low' ≤ low → high ≤ high' → (a : Step) → Declares low high a → Declares low' high' a
wider low high low' high' from to (s.declare x n) h = (omega (arith, from, h.0), omega (arith, to, h.1))
wider low high low' high' from to (s.set a t) h = tt
wider low high low' high' from to (s.set_bits a l k t) h = tt
wider low high low' high' from to (s.store space n pointer x t) h = tt
wider low high low' high' from to (s.run_user op ts) h = tt
wider low high low' high' from to (s.build i) h = tt
wider low high low' high' from to (s.label l) h = tt
wider low high low' high' from to (s.branch place) h = tt
wider low high low' high' from to (s.branch_if t place) h = tt
wider low high low' high' from to (s.branch_to t) h = tt
wider low high low' high' from to (s.call a) h = tt
wider low high low' high' from to (s.call_to t) h = tt
wider low high low' high' from to (s.return t) h = tt
wider low high low' high' from to (s.export what) h = tt

pub both_declare : (low middle high : ℕ) (xs ys : List Step) → low ≤ middle → middle ≤ high → DeclareWithin low middle xs
    → DeclareWithin middle high ys → DeclareWithin low high (xs ++ ys)
both_declare low middle high [] [] from to h k = tt
both_declare low middle high [] (y ∷ ys) from to h k =
    let parts = first_of middle high y ys k in
    then_more low high y ys (wider middle high low high from (omega arith) y parts.0)
    (both_declare low middle high [] ys from to h parts.1)
both_declare low middle high (x ∷ xs) ys from to h k =
    let parts = first_of low middle x xs h in
    then_more low high x (xs ++ ys) (wider low middle low high (omega arith) to x parts.0)
    (both_declare low middle high xs ys from to parts.1 k)

-- ---- of statements

module _ (t : Tables) where
  pub record AreInARow (c : Calls) : Type 0 where
    pub more : (w : Name) (es : List Expression) (st : read.State) → st.next ≤ (c.after w es st).next
    pub declare : (w : Name) (es : List Expression) (st : read.State)
        → DeclareWithin st.next (c.after w es st).next (c.taken w es st)

  module _ (c : Calls) (are : AreInARow c) where
    assign_more : (w : Name) (st : read.State) (o : Option Symbol) (e : Expression) → st.next ≤ (assign_after w st o e).next
    assign_more w st None e = omega arith
    assign_more w st (Some a) e = omega arith

    pub next_more : (st : read.State) (x : Statement) → st.next ≤ (after t c st x).next
    next_more st (local w size value) = omega arith
    next_more st (declare w n e) = omega arith
    next_more st (assign (left_name w) e) = assign_more w st (symbol_named t st.names w) e
    next_more st (assign (left_bits w l k) e) = omega arith
    next_more st (assign (left_star form p) e) = omega arith
    next_more st (goto to) = omega arith
    next_more st (branch e to) = omega arith
    next_more st (call_to to) = omega arith
    next_more st (return e) = omega arith
    next_more st (build w) = omega arith
    next_more st (export what) = omega arith
    next_more st (invoke w es) = are.more w es st
    next_more st (label w) = omega arith

    pub all_next_more : (xs : List Statement) (st : read.State) → st.next ≤ (all_after t c st xs).next
    all_next_more [] st = omega arith
    all_next_more (x ∷ xs) st = omega (arith, next_more st x, all_next_more xs (after t c st x))

    local_declares : (w : Name) (st : read.State) (size : Option ℕ) (value : Option Expression)
        → DeclareWithin st.next (local_after w st value).next (local_steps t st size value)
    local_declares w st size None = ((omega arith, omega arith), tt)
    local_declares w st size (Some e) = ((omega arith, omega arith), tt)

    assign_declares : (w : Name) (st : read.State) (o : Option Symbol) (e : Expression)
        → DeclareWithin st.next (assign_after w st o e).next (assign_steps t st o e)
    assign_declares w st None e = ((omega arith, omega arith), tt)
    assign_declares w st (Some a) e = tt

    build_declares : (low high : ℕ) (a : Symbol) → DeclareWithin low high (build_steps a)
    build_declares low high (s.table i) = tt
    build_declares low high (s.register space offset size) = tt
    build_declares low high (s.bit_range space offset size l k) = tt
    build_declares low high (s.local x) = tt
    build_declares low high (s.attached i size) = tt
    build_declares low high (s.value i) = tt
    build_declares low high s.start = tt
    build_declares low high s.next = tt
    build_declares low high (s.integer v) = tt

    taken_declare : (st : read.State) (x : Statement) → DeclareWithin st.next (after t c st x).next (taken t c st x)
    taken_declare st (local w size value) = local_declares w st _ value
    taken_declare st (declare w n e) = ((omega arith, omega arith), tt)
    taken_declare st (assign (left_name w) e) = assign_declares w st (symbol_named t st.names w) e
    taken_declare st (assign (left_bits w l k) e) = tt
    taken_declare st (assign (left_star form p) e) = tt
    taken_declare st (goto (direct to)) = tt
    taken_declare st (goto (computed e)) = tt
    taken_declare st (branch e to) = tt
    taken_declare st (call_to (calls o)) = tt
    taken_declare st (call_to (calls_computed e)) = tt
    taken_declare st (return e) = tt
    taken_declare st (build w) = build_declares st.next st.next (symbol_here t st w)
    taken_declare st (export what) = tt
    taken_declare st (invoke w es) = are.declare w es st
    taken_declare st (label w) = tt

    pub all_declare : (xs : List Statement) (st : read.State)
        → DeclareWithin st.next (all_after t c st xs).next (all_taken t c st xs)
    all_declare [] st = tt
    all_declare (x ∷ xs) st =
        let next = after t c st x in
        both_declare st.next next.next (all_after t c next xs).next (taken t c st x) (all_taken t c next xs)
        (next_more st x) (all_next_more xs next) (taken_declare st x) (all_declare xs next)

  -- ---- of calls

  userop_declares : (low high : ℕ) (o : Option ℕ) (ts : List Term) → DeclareWithin low high (userop_steps o ts)
  userop_declares low high None ts = tt
  userop_declares low high (Some u) ts = tt

  userops_in_a_row : AreInARow (userop_calls t)
  userops_in_a_row = record { more = λ w es st. omega arith; declare = λ w es st. userop_declares _ _ _ _ }

  argument_declares : (names : Names) (i : ℕ) (e : Expression) → DeclareWithin i (i + argument_variables e) (argument_steps t names i e)
  argument_declares names i (named w) = tt
  argument_declares names i (integer v) = tt
  argument_declares names i (paren e) = ((omega arith, omega arith), tt)
  argument_declares names i (call w es) = ((omega arith, omega arith), tt)
  argument_declares names i (sized e n) = ((omega arith, omega arith), tt)
  argument_declares names i (dropped e n) = ((omega arith, omega arith), tt)
  argument_declares names i (bits e l k) = ((omega arith, omega arith), tt)
  argument_declares names i (prefix op e) = ((omega arith, omega arith), tt)
  argument_declares names i (star z n e) = ((omega arith, omega arith), tt)
  argument_declares names i (binary op a b) = ((omega arith, omega arith), tt)

  given_declare : (names : Names) (i high : ℕ) (es : List Expression) → i + given_variables es ≡ high
      → DeclareWithin i high (given t names i es)
  given_declare names i high [] same = tt
  given_declare names i high (e ∷ es) same =
      both_declare i (i + argument_variables e) high (argument_steps t names i e) (given t names (i + argument_variables e) es)
      (omega arith) (omega (arith, same)) (argument_declares names i e)
      (given_declare names (i + argument_variables e) high es (omega (arith, same)))

  macro_in_a_row : (earlier : Calls) (m : Body) → AreInARow earlier → AreInARow (macro_calls t earlier m)
  macro_in_a_row earlier m are = record {
    more = λ w es st. let rest = all_next_more earlier are (body_of m) (entered t st m es) in omega (arith, rest);
    declare = λ w es st.
        let inside = entered t st m es in
        both_declare st.next inside.next (all_after t earlier inside (body_of m)).next (given t st.names st.next es)
        (all_taken t earlier inside (body_of m)) (omega arith) (all_next_more earlier are (body_of m) inside)
        (given_declare st.names st.next inside.next es refl) (all_declare earlier are (body_of m) inside);
  }

  module _ (macros : List Body) where
    either_in_a_row : (n : ℕ) (m : Body) (earlier : Calls) → AreInARow earlier → AreInARow (macro_calls t earlier m)
        → AreInARow (with_macro t macros n (Some m) earlier)
    either_in_a_row n m earlier before own = record {
      more = λ w es st. more_by (is_call_of t macros n m w es) w es st;
      declare = λ w es st. declare_by (is_call_of t macros n m w es) w es st;
    }
      where
        mine : Calls
        mine = macro_calls t earlier m

        more_by : (b : Bool) (w : Name) (es : List Expression) (st : read.State)
            → st.next ≤ (if b then mine.after w es st else earlier.after w es st).next
        more_by true w es st = own.more w es st
        more_by false w es st = before.more w es st

        declare_by : (b : Bool) (w : Name) (es : List Expression) (st : read.State)
            → DeclareWithin st.next (if b then mine.after w es st else earlier.after w es st).next
            (if b then mine.taken w es st else earlier.taken w es st)
        declare_by true w es st = own.declare w es st
        declare_by false w es st = before.declare w es st

    known_in_a_row : (n : ℕ) (o : Option Body) → AreInARow (calls_of t macros n)
        → AreInARow (with_macro t macros n o (calls_of t macros n))
    known_in_a_row n None before = before
    known_in_a_row n (Some m) before =
        either_in_a_row n m (calls_of t macros n) before (macro_in_a_row (calls_of t macros n) m before)

    pub calls_in_a_row : (n : ℕ) → AreInARow (calls_of t macros n)
    calls_in_a_row zero = userops_in_a_row
    calls_in_a_row (suc n) = known_in_a_row n (slice_get macros n) (calls_in_a_row n)
