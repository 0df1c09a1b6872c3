-- The labels of statements and of the calls among them: each call has its own, and jumps to those alone.
use Rattle.std.proofs.Common.{◌≡◌, ℕ, zero, suc, ◌+◌, ◌<◌, ◌≤◌, ◌==◌, ◌&&◌, ◌||◌, Bool, true, false, List, [], ◌∷◌, ◌++◌, Option, Some, None, refl, sym, ap, subst, ◌∙◌, arith}
use Rattle.std.specs.Prelude.{if◌then◌else◌, slice_get, ⊤}
use Rattle.std.specs.List.{list_all, list_any}
use Rattle.std.specs.Str.{bytes_eq}
use Rattle.std.proofs.lemmas.Bool.{false≢true}
use Rattle.std.proofs.lemmas.Bool.Decides.{nat_tests}
use Rattle.std.proofs.lemmas.Slice.Eq.{bytes_eq-Decides}
use Rattle.sl_ast.specs.Trees.{Expression, integer, named, paren, call, sized, dropped, bits, prefix, star, binary}
use Rattle.sl_ast.specs.Trees.{left_name, left_bits, left_star, Direct, to_label, to_operand, Dest, direct, computed, calls, calls_computed}
use Rattle.sl_ast.specs.Trees.{Statement, local, declare, assign, goto, branch, call_to, return, build, export, invoke, label}
use Rattle.sl_meaning_calls.proofs.LabelLemmas.{IsThere, there_first, there_later, uses_more}
use Rattle.sl_meaning_calls.proofs.StretchLemmas.{Any, Uses, uses_both}
use Rattle.sl_meaning_calls.specs.Laws.{CountsCalls, KeepLabels}
use Rattle.sl_meaning_sections.specs.Statements.{is_label}
use Rattle.sl_section_flat.specs.Sections as s
use Rattle.sl_section_flat.specs.Sections.{Label, Step, Symbol, Term}
use Rattle.sl_section_forms.specs.Labels.{has_labels, labels, leads, statement_leads}
use Rattle.sl_section_resolve.specs.Macros.{Body}
use Rattle.sl_section_resolve.specs.Steps.{Calls, after, all_after, all_taken, argument_steps, argument_variables, assign_after, assign_steps, body_of, build_steps, calls_of, entered, given, is_call_of, label_here, local_steps, macro_calls, symbol_here, taken, userop_calls, userop_steps, with_macro}
use Rattle.sl_section_resolve.specs.declared.state.State as read
use Rattle.sl_section_terms.specs.Scopes.{symbol_named}
use Rattle.sl_section_terms.specs.declared.names.Names.{Names}
use Rattle.sl_spec_rules.specs.Gathered.{gathered}
use Rattle.sl_spec_rules.specs.Names.{are_distinct, is_among}
use Rattle.sl_spec.specs.Tables.{Name}
use Rattle.sl_spec.specs.declared.tables.Tables.{Tables}

both_true : (a b : Bool) → (a && b) ≡ true → (a ≡ true) × (b ≡ true)
both_true true b h = (refl, h)
both_true false b h = absurd (false≢true h)

-- The label is of a call with a number in between.
abbrev pub Within : ℕ → ℕ → Label → Type 0
Within low high l = (low ≤ l.call) × (l.call < high)

-- ---- statements that call no macro

module _ (Q P : Label → Type 0) where
  abbrev DirectUses : read.State → Direct → Type 0
  DirectUses st (to_label w) = P (label_here st w)
  DirectUses st (to_operand o) = ⊤

  abbrev DestUses : read.State → Dest → Type 0
  DestUses st (direct to) = DirectUses st to
  DestUses st (computed e) = ⊤

  abbrev pub StatementUses : Calls → read.State → Statement → Type 0
  StatementUses c st (goto to) = DestUses st to
  StatementUses c st (branch e to) = DirectUses st to
  StatementUses c st (invoke w es) = Uses Q P (c.taken w es st)
  StatementUses c st (label w) = Q (label_here st w)
  StatementUses c st _ = ⊤

module _ (t : Tables) where
  module _ (Q P : Label → Type 0) where
    local_uses : (st : read.State) (size : Option ℕ) (value : Option Expression) → Uses Q P (local_steps t st size value)
    local_uses st size None = (tt, tt)
    local_uses st size (Some e) = (tt, (tt, tt))

    assign_uses : (st : read.State) (o : Option Symbol) (e : Expression) → Uses Q P (assign_steps t st o e)
    assign_uses st None e = (tt, (tt, tt))
    assign_uses st (Some a) e = (tt, tt)

    build_uses : (a : Symbol) → Uses Q P (build_steps a)
    build_uses (s.table i) = (tt, tt)
    build_uses (s.register space offset size) = tt
    build_uses (s.bit_range space offset size low count) = tt
    build_uses (s.local x) = tt
    build_uses (s.attached i size) = tt
    build_uses (s.value i) = tt
    build_uses s.start = tt
    build_uses s.next = tt
    build_uses (s.integer v) = tt

    pub taken_uses : (c : Calls) (st : read.State) (x : Statement) → StatementUses Q P c st x → Uses Q P (taken t c st x)
    taken_uses c st (local w size value) h = local_uses st _ value
    taken_uses c st (declare w n e) h = (tt, (tt, tt))
    taken_uses c st (assign (left_name w) e) h = assign_uses st (symbol_named t st.names w) e
    taken_uses c st (assign (left_bits w l k) e) h = (tt, tt)
    taken_uses c st (assign (left_star form p) e) h = (tt, tt)
    taken_uses c st (goto (direct (to_label w))) h = (h, tt)
    taken_uses c st (goto (direct (to_operand o))) h = (tt, tt)
    taken_uses c st (goto (computed e)) h = (tt, tt)
    taken_uses c st (branch e (to_label w)) h = (h, tt)
    taken_uses c st (branch e (to_operand o)) h = (tt, tt)
    taken_uses c st (call_to (calls o)) h = (tt, tt)
    taken_uses c st (call_to (calls_computed e)) h = (tt, tt)
    taken_uses c st (return e) h = (tt, tt)
    taken_uses c st (build w) h = build_uses (symbol_here t st w)
    taken_uses c st (export what) h = (tt, tt)
    taken_uses c st (invoke w es) h = h
    taken_uses c st (label w) h = (h, tt)

  -- ---- calls

  -- What is known of calls: they count on, go back to the caller's names, and have labels of their own, to which alone
  -- they jump.
  pub record AreCalls (c : Calls) : Type 0 where
    pub more : (w : Name) (es : List Expression) (st : read.State) → st.calls ≤ (c.after w es st).calls
    pub back : (w : Name) (es : List Expression) (st : read.State) → (c.after w es st).names.here ≡ st.names.here
    pub within : (w : Name) (es : List Expression) (st : read.State)
        → Uses (Within st.calls (c.after w es st).calls) (Within st.calls (c.after w es st).calls) (c.taken w es st)
    pub closed : (w : Name) (es : List Expression) (st : read.State)
        → Uses Any (λ l. IsThere l (c.taken w es st)) (c.taken w es st)

  module _ (c : Calls) (are : AreCalls c) where
    assign_more : (w : Name) (st : read.State) (o : Option Symbol) (e : Expression) → st.calls ≤ (assign_after w st o e).calls
    assign_more w st None e = omega arith
    assign_more w st (Some a) e = omega arith

    pub after_more : (st : read.State) (x : Statement) → st.calls ≤ (after t c st x).calls
    after_more st (local w size value) = omega arith
    after_more st (declare w n e) = omega arith
    after_more st (assign (left_name w) e) = assign_more w st (symbol_named t st.names w) e
    after_more st (assign (left_bits w l k) e) = omega arith
    after_more st (assign (left_star form p) e) = omega arith
    after_more st (goto to) = omega arith
    after_more st (branch e to) = omega arith
    after_more st (call_to to) = omega arith
    after_more st (return e) = omega arith
    after_more st (build w) = omega arith
    after_more st (export what) = omega arith
    after_more st (invoke w es) = are.more w es st
    after_more st (label w) = omega arith

    assign_here : (w : Name) (st : read.State) (o : Option Symbol) (e : Expression)
        → (assign_after w st o e).names.here ≡ st.names.here
    assign_here w st None e = refl
    assign_here w st (Some a) e = refl

    pub after_here : (st : read.State) (x : Statement) → (after t c st x).names.here ≡ st.names.here
    after_here st (local w size value) = refl
    after_here st (declare w n e) = refl
    after_here st (assign (left_name w) e) = assign_here w st (symbol_named t st.names w) e
    after_here st (assign (left_bits w l k) e) = refl
    after_here st (assign (left_star form p) e) = refl
    after_here st (goto to) = refl
    after_here st (branch e to) = refl
    after_here st (call_to to) = refl
    after_here st (return e) = refl
    after_here st (build w) = refl
    after_here st (export what) = refl
    after_here st (invoke w es) = are.back w es st
    after_here st (label w) = refl

    pub all_more : (xs : List Statement) (st : read.State) → st.calls ≤ (all_after t c st xs).calls
    all_more [] st = omega arith
    all_more (x ∷ xs) st = omega (arith, after_more st x, all_more xs (after t c st x))

    pub all_here : (xs : List Statement) (st : read.State) → (all_after t c st xs).names.here ≡ st.names.here
    all_here [] st = refl
    all_here (x ∷ xs) st = all_here xs (after t c st x) ∙ after_here st x

    pub counts_on : (st : read.State) (x : Statement) → CountsCalls st → CountsCalls (after t c st x)
    counts_on st x h = omega (arith, after_here st x, after_more st x, h)

    -- statements use labels of the call in which they are, and of calls behind
    pub all_within : (low high : ℕ) (xs : List Statement) (st : read.State) → low ≤ st.names.here → CountsCalls st
        → (all_after t c st xs).calls ≤ high → Uses (Within low high) (Within low high) (all_taken t c st xs)
    all_within low high [] st from counts to = tt
    all_within low high (x ∷ xs) st from counts to =
        let next = after t c st x in
        let more = all_more (x ∷ xs) st in
        let here : (w : Name) → Within low high (label_here st w) = λ w. (from, omega (arith, counts, more, to)) in
        let called : (w : Name) (es : List Expression) → (c.after w es st).calls ≤ high
        → Uses (Within low high) (Within low high) (c.taken w es st) =
        λ w es few. uses_more (λ l h. (omega (arith, h.0, from, counts), omega (arith, h.1, few)))
        (λ l h. (omega (arith, h.0, from, counts), omega (arith, h.1, few))) (c.taken w es st) (are.within w es st) in
        let few : next.calls ≤ high = let rest = all_more xs next in omega (arith, rest, to) in
        let same = after_here st x in
        uses_both (Within low high) (Within low high) (taken t c st x) (all_taken t c next xs)
        (taken_uses (Within low high) (Within low high) c st x (used x here called few))
        (all_within low high xs next (omega (arith, same, from)) (counts_on st x counts) to)
      where
        used : (x : Statement) → ((w : Name) → Within low high (label_here st w))
            → ((w : Name) (es : List Expression) → (c.after w es st).calls ≤ high
            → Uses (Within low high) (Within low high) (c.taken w es st))
            → (after t c st x).calls ≤ high → StatementUses (Within low high) (Within low high) c st x
        used (local w size value) here called few = tt
        used (declare w n e) here called few = tt
        used (assign left e) here called few = tt
        used (goto (direct (to_label w))) here called few = here w
        used (goto (direct (to_operand o))) here called few = tt
        used (goto (computed e)) here called few = tt
        used (branch e (to_label w)) here called few = here w
        used (branch e (to_operand o)) here called few = tt
        used (call_to to) here called few = tt
        used (return e) here called few = tt
        used (build w) here called few = tt
        used (export what) here called few = tt
        used (invoke w es) here called few = called w es few
        used (label w) here called few = here w

    -- ---- labels of a body

    at_call : (st : read.State) (n : ℕ) (w : Name) → st.names.here ≡ n → label_here st w ≡ record { call = n; name = w }
    at_call st n w same = ap (λ (n : ℕ). record { call = n; name = w }) same

    there_after : (n : ℕ) (w : Name) (x : Statement) (xs : List Statement) (st : read.State) → st.names.here ≡ n
        → is_among (labels xs) w ≡ true
        → ((st : read.State) → st.names.here ≡ n → is_among (labels xs) w ≡ true
        → IsThere (record { call = n; name = w }) (all_taken t c st xs))
        → IsThere (record { call = n; name = w }) (all_taken t c st (x ∷ xs))
    there_after n w x xs st same h later =
        there_later (record { call = n; name = w }) (taken t c st x) (all_taken t c (after t c st x) xs)
        (later (after t c st x) (after_here st x ∙ same) h)

    -- a label that is written is there
    pub label_there : (n : ℕ) (w : Name) (xs : List Statement) (st : read.State) → st.names.here ≡ n
        → is_among (labels xs) w ≡ true → IsThere (record { call = n; name = w }) (all_taken t c st xs)
    unfolding gathered
    label_there n w [] st same h = absurd (false≢true h)
    label_there n w (label v ∷ xs) st same h =
        found (bytes_eq w v) (is_among (labels xs) w) refl h (label_there n w xs st same)
      where
        found : (b any : Bool) → bytes_eq w v ≡ b → (b || any) ≡ true
            → (any ≡ true → IsThere (record { call = n; name = w }) (all_taken t c st xs))
            → IsThere (record { call = n; name = w }) (s.label (label_here st v) ∷ all_taken t c st xs)
        found true more is h later =
            let alike : w ≡ v = (bytes_eq-Decides w v).0 is in
            let name : bytes_eq v w ≡ true = (bytes_eq-Decides v w).1 (sym alike) in
            let number : (st.names.here == n) ≡ true = grind (arith, nat_tests, same) in
            let any = list_any (λ a. is_label a (record { call = n; name = w })) (all_taken t c st xs) in
            ap (λ (b : Bool). (b && bytes_eq v w) || any) number ∙ ap (λ (b : Bool). b || any) name
        found false more is h later =
            there_later (record { call = n; name = w }) (s.label (label_here st v) ∷ []) (all_taken t c st xs) (later h)
    label_there n w (local v size value ∷ xs) st same h = there_after n w (local v size value) xs st same h (label_there n w xs)
    label_there n w (declare v k e ∷ xs) st same h = there_after n w (declare v k e) xs st same h (label_there n w xs)
    label_there n w (assign left e ∷ xs) st same h = there_after n w (assign left e) xs st same h (label_there n w xs)
    label_there n w (goto to ∷ xs) st same h = there_after n w (goto to) xs st same h (label_there n w xs)
    label_there n w (branch e to ∷ xs) st same h = there_after n w (branch e to) xs st same h (label_there n w xs)
    label_there n w (call_to to ∷ xs) st same h = there_after n w (call_to to) xs st same h (label_there n w xs)
    label_there n w (return e ∷ xs) st same h = there_after n w (return e) xs st same h (label_there n w xs)
    label_there n w (build v ∷ xs) st same h = there_after n w (build v) xs st same h (label_there n w xs)
    label_there n w (export what ∷ xs) st same h = there_after n w (export what) xs st same h (label_there n w xs)
    label_there n w (invoke v es ∷ xs) st same h = there_after n w (invoke v es) xs st same h (label_there n w xs)

    -- where each one to which a statement leads is there in the whole, so is each one to which the steps jump
    all_closed : (n : ℕ) (names : List Name) (whole : List Step)
        → ((w : Name) → is_among names w ≡ true → IsThere (record { call = n; name = w }) whole)
        → (xs : List Statement) (st : read.State) → st.names.here ≡ n → list_all (statement_leads names) xs ≡ true
        → ((l : Label) → IsThere l (all_taken t c st xs) → IsThere l whole)
        → Uses Any (λ l. IsThere l whole) (all_taken t c st xs)
    all_closed n names whole there [] st same h within = tt
    all_closed n names whole there (x ∷ xs) st same h within =
        let parts = both_true (statement_leads names x) (list_all (statement_leads names) xs) h in
        let next = after t c st x in
        uses_both Any (λ l. IsThere l whole) (taken t c st x) (all_taken t c next xs)
        (taken_uses Any (λ l. IsThere l whole) c st x (used x parts.0 (λ l is. within l (there_first l (taken t c st x) (all_taken t c next xs) is))))
        (all_closed n names whole there xs next (after_here st x ∙ same) parts.1
        (λ l is. within l (there_later l (taken t c st x) (all_taken t c next xs) is)))
      where
        own : (w : Name) → is_among names w ≡ true → IsThere (label_here st w) whole
        own w among = subst (λ (l : Label). IsThere l whole) (sym (at_call st n w same)) (there w among)

        used : (x : Statement) → statement_leads names x ≡ true
            → ((l : Label) → IsThere l (taken t c st x) → IsThere l whole)
            → StatementUses Any (λ l. IsThere l whole) c st x
        used (local w size value) leads inside = tt
        used (declare w k e) leads inside = tt
        used (assign left e) leads inside = tt
        used (goto (direct (to_label w))) leads inside = own w leads
        used (goto (direct (to_operand o))) leads inside = tt
        used (goto (computed e)) leads inside = tt
        used (branch e (to_label w)) leads inside = own w leads
        used (branch e (to_operand o)) leads inside = tt
        used (call_to to) leads inside = tt
        used (return e) leads inside = tt
        used (build w) leads inside = tt
        used (export what) leads inside = tt
        used (invoke w es) leads inside = uses_more (λ l q. tt) (λ l is. inside l is) (c.taken w es st) (are.closed w es st)
        used (label w) leads inside = tt

    -- so it is where rule 28 holds
    pub body_closed : (xs : List Statement) (st : read.State) → has_labels xs ≡ true
        → Uses Any (λ l. IsThere l (all_taken t c st xs)) (all_taken t c st xs)
    body_closed xs st holds =
        let parts = both_true (are_distinct (labels xs)) (list_all (statement_leads (labels xs)) xs) holds in
        all_closed st.names.here (labels xs) (all_taken t c st xs)
        (λ w among. label_there st.names.here w xs st refl among) xs st refl parts.1 (λ l is. is)

  -- ---- calls of user operations

  userop_uses : (Q P : Label → Type 0) (o : Option ℕ) (ts : List Term) → Uses Q P (userop_steps o ts)
  userop_uses Q P None ts = tt
  userop_uses Q P (Some u) ts = (tt, tt)

  userops_are : AreCalls (userop_calls t)
  userops_are = record {
    more = λ w es st. omega arith;
    back = λ w es st. refl;
    within = λ w es st. userop_uses _ _ _ _;
    closed = λ w es st. userop_uses _ _ _ _;
  }

  -- ---- calls of macros

  module _ (Q P : Label → Type 0) where
    argument_uses : (names : Names) (i : ℕ) (e : Expression) → Uses Q P (argument_steps t names i e)
    argument_uses names i (named w) = tt
    argument_uses names i (integer v) = tt
    argument_uses names i (paren e) = (tt, (tt, tt))
    argument_uses names i (call w es) = (tt, (tt, tt))
    argument_uses names i (sized e n) = (tt, (tt, tt))
    argument_uses names i (dropped e n) = (tt, (tt, tt))
    argument_uses names i (bits e l k) = (tt, (tt, tt))
    argument_uses names i (prefix op e) = (tt, (tt, tt))
    argument_uses names i (star z n e) = (tt, (tt, tt))
    argument_uses names i (binary op a b) = (tt, (tt, tt))

    pub given_uses : (names : Names) (i : ℕ) (es : List Expression) → Uses Q P (given t names i es)
    given_uses names i [] = tt
    given_uses names i (e ∷ es) =
        uses_both Q P (argument_steps t names i e) (given t names (i + argument_variables e) es) (argument_uses names i e)
        (given_uses names (i + argument_variables e) es)

  macro_are : (earlier : Calls) (m : Body) → AreCalls earlier → has_labels (body_of m) ≡ true → AreCalls (macro_calls t earlier m)
  macro_are earlier m are holds = record {
    more = λ w es st. let rest = all_more earlier are (body_of m) (entered t st m es) in omega (arith, rest);
    back = λ w es st. refl;
    within = λ w es st.
        let high = (all_after t earlier (entered t st m es) (body_of m)).calls in
        uses_both (Within st.calls high) (Within st.calls high) (given t st.names st.next es)
        (all_taken t earlier (entered t st m es) (body_of m))
        (given_uses (Within st.calls high) (Within st.calls high) st.names st.next es)
        (all_within earlier are st.calls high (body_of m) (entered t st m es) (omega arith) (omega arith) (omega arith));
    closed = λ w es st.
        let first = given t st.names st.next es in
        let inner = all_taken t earlier (entered t st m es) (body_of m) in
        uses_both Any (λ l. IsThere l (first ++ inner)) first inner
        (given_uses Any (λ l. IsThere l (first ++ inner)) st.names st.next es)
        (uses_more (λ l q. tt) (λ l is. there_later l first inner is) inner
        (body_closed earlier are (body_of m) (entered t st m es) holds));
  }

  module _ (macros : List Body) (labels_kept : KeepLabels macros) where
    either_are : (n : ℕ) (m : Body) (earlier : Calls) → AreCalls earlier → AreCalls (macro_calls t earlier m)
        → AreCalls (with_macro t macros n (Some m) earlier)
    either_are n m earlier before own = record {
      more = λ w es st. more_by (is_call_of t macros n m w es) w es st;
      back = λ w es st. back_by (is_call_of t macros n m w es) w es st;
      within = λ w es st. within_by (is_call_of t macros n m w es) w es st;
      closed = λ w es st. closed_by (is_call_of t macros n m w es) w es st;
    }
      where
        mine : Calls
        mine = macro_calls t earlier m

        more_by : (b : Bool) (w : Name) (es : List Expression) (st : read.State)
            → st.calls ≤ (if b then mine.after w es st else earlier.after w es st).calls
        more_by true w es st = own.more w es st
        more_by false w es st = before.more w es st

        back_by : (b : Bool) (w : Name) (es : List Expression) (st : read.State)
            → (if b then mine.after w es st else earlier.after w es st).names.here ≡ st.names.here
        back_by true w es st = own.back w es st
        back_by false w es st = before.back w es st

        within_by : (b : Bool) (w : Name) (es : List Expression) (st : read.State)
            → Uses (Within st.calls (if b then mine.after w es st else earlier.after w es st).calls)
            (Within st.calls (if b then mine.after w es st else earlier.after w es st).calls)
            (if b then mine.taken w es st else earlier.taken w es st)
        within_by true w es st = own.within w es st
        within_by false w es st = before.within w es st

        closed_by : (b : Bool) (w : Name) (es : List Expression) (st : read.State)
            → Uses Any (λ l. IsThere l (if b then mine.taken w es st else earlier.taken w es st))
            (if b then mine.taken w es st else earlier.taken w es st)
        closed_by true w es st = own.closed w es st
        closed_by false w es st = before.closed w es st

    known_are : (n : ℕ) (o : Option Body) → slice_get macros n ≡ o → AreCalls (calls_of t macros n)
        → AreCalls (with_macro t macros n o (calls_of t macros n))
    known_are n None is before = before
    known_are n (Some m) is before =
        either_are n m (calls_of t macros n) before (macro_are (calls_of t macros n) m before (labels_kept n m is))

    pub calls_are : (n : ℕ) → AreCalls (calls_of t macros n)
    calls_are zero = userops_are
    calls_are (suc n) = known_are n (slice_get macros n) refl (calls_are n)
