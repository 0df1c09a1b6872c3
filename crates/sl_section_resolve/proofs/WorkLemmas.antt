-- Reading with a stack of frames comes to what the definition gives.
use Rattle.std.proofs.Common.{◌≡◌, ℕ, zero, suc, ◌==◌, ◌&&◌, Bool, true, false, nat_lt, List, [], ◌∷◌, ◌++◌, Option, Some, None, length, slice_get, refl, sym, ap, ◌∙◌, subst, append_assoc, arith, if◌then◌else◌}
use Rattle.sl_ast.specs.Trees.{Expression, Statement, local, declare, assign, goto, branch, call_to, return, build, export, invoke, label}
use Rattle.sl_section_flat.specs.Sections.{Step}
use Rattle.sl_section_flat.specs.Views.{steps_of}
use Rattle.sl_spec.specs.Named.{index_named}
use Rattle.sl_spec.specs.Tables.{Name}
use Rattle.sl_spec.specs.declared.tables.Tables.{Tables}
use Rattle.sl_section_terms.specs.Scopes.{if_below}
use Rattle.sl_section_resolve.specs.Steps.{Calls, after, all_after, all_taken, body_of, calls_of, entered, given, is_number, macro_calls, macro_name, parameters_of, returned, taken, userop_calls, with_macro}
use Rattle.sl_section_resolve.specs.Work.{Begins, GoesOn, Outcome, behind, called_macro, frame_owes, gone_on, if_takes, left_in, nothing_left, outcome, outcome_with, owed, owed_from, resumed, state_in, statement_macro, taking, then_owed}
use Rattle.sl_section_resolve.specs.Macros.{Body}
use Rattle.sl_section_terms.specs.declared.names.Names.{Names}
use Rattle.sl_section_resolve.specs.declared.state.State.{State}
use Rattle.sl_section_resolve.specs.declared.work.Frame.{Frame}
use Rattle.sl_section_resolve.specs.declared.work.Work.{Work}

-- ---- which macro a call is one of

-- how an index compares with a number, by the tests
data Where : (less same up : Bool) → Type 0 where
  is_less : Where true false true
  is_same : Where false true true
  is_more : Where false false false

where_of : (i n : ℕ) (a b c : Bool) → nat_lt i n ≡ a → (i == n) ≡ b → nat_lt i (suc n) ≡ c → Where a b c
where_of i n true false true e f g = is_less
where_of i n false true true e f g = is_same
where_of i n false false false e f g = is_more
where_of i n true true c e f g = absurd (let h : ⊥ = grind arith in h)
where_of i n true false false e f g = absurd (let h : ⊥ = grind arith in h)
where_of i n false true false e f g = absurd (let h : ⊥ = grind arith in h)
where_of i n false false true e f g = absurd (let h : ⊥ = grind arith in h)

where_is : (i n : ℕ) → Where (nat_lt i n) (i == n) (nat_lt i (suc n))
where_is i n = where_of i n (nat_lt i n) (i == n) (nat_lt i (suc n)) refl refl refl

none_below_0 : (i : ℕ) (b : Bool) → nat_lt i zero ≡ b → (if b then Some i else None) ≡ None
none_below_0 i true e = absurd (let h : ⊥ = grind arith in h)
none_below_0 i false e = refl

none_below : (k : Option ℕ) → if_below zero k ≡ None
none_below None = refl
none_below (Some i) = none_below_0 i (nat_lt i zero) refl

module _ (t : Tables) (macros : List Body) (w : Name) (es : List Expression) where
  abbrev numbered : Option Body → Calls → Calls
  numbered None c = userop_calls t
  numbered (Some m) c = macro_calls t c m

  -- the calls by the macro that is found
  abbrev chosen : Option ℕ → Calls
  chosen None = userop_calls t
  chosen (Some i) = numbered (slice_get macros i) (calls_of t macros i)

  -- They do the same at such a call.
  record Same (c d : Calls) : Type 0 where
    taken : (st : State) → c.taken w es st ≡ d.taken w es st
    after : (st : State) → c.after w es st ≡ d.after w es st

  abbrev with_lens : Bool → Body → Calls → Calls
  with_lens b m c = record {
    taken = λ v fs st. if b then (macro_calls t c m).taken v fs st else c.taken v fs st;
    after = λ v fs st. if b then (macro_calls t c m).after v fs st else c.after v fs st;
  }

  abbrev takes : Body → Bool
  takes m = length (parameters_of m) == length es

  abbrev with_if : Bool → Option Body → Calls → Calls
  with_if b None c = c
  with_if b (Some m) c = with_lens (b && takes m) m c

  same_calls : (o : Option Body) (c d : Calls) → Same c d → Same (with_if false o c) d
  same_calls None c d h = h
  same_calls (Some m) c d h = record { taken = λ st. h.taken st; after = λ st. h.after st }

  lens_case : (n : ℕ) (m : Body) (b : Bool) → slice_get macros n ≡ Some m → Same (calls_of t macros n) (userop_calls t)
      → Same (with_lens b m (calls_of t macros n)) (chosen (if b then Some n else None))
  lens_case n m true at ih = record {
    taken = λ st. ap (λ o. (numbered o (calls_of t macros n)).taken w es st) (sym at);
    after = λ st. ap (λ o. (numbered o (calls_of t macros n)).after w es st) (sym at);
  }
  lens_case n m false at ih = record { taken = λ st. ih.taken st; after = λ st. ih.after st }

  same_case : (n : ℕ) (o : Option Body) → slice_get macros n ≡ o → Same (calls_of t macros n) (userop_calls t)
      → Same (with_if true o (calls_of t macros n)) (chosen (if_takes n o es))
  same_case n None at ih = ih
  same_case n (Some m) at ih = lens_case n m (takes m) at ih

  by_where : (i n : ℕ) (o : Option Body) (less same up : Bool) → Where less same up → (same ≡ true → i ≡ n) → slice_get macros n ≡ o
      → Same (calls_of t macros n) (chosen (taking macros (if less then Some i else None) es))
      → Same (with_if same o (calls_of t macros n)) (chosen (taking macros (if up then Some i else None) es))
  by_where i n o less same up is_less is at ih = same_calls o (calls_of t macros n) _ ih
  by_where i n o less same up is_same is at ih =
      let here : Same (with_if true o (calls_of t macros n)) (chosen (if_takes n (slice_get macros n) es)) =
      subst (λ p. Same (with_if true o (calls_of t macros n)) (chosen (if_takes n p es))) (sym at) (same_case n o at ih) in
      subst (λ j. Same (with_if true o (calls_of t macros n)) (chosen (if_takes j (slice_get macros j) es))) (sym (is refl)) here
  by_where i n o less same up is_more is at ih = same_calls o (calls_of t macros n) _ ih

  found_at : (n : ℕ) (o : Option Body) (k : Option ℕ) → slice_get macros n ≡ o
      → Same (calls_of t macros n) (chosen (taking macros (if_below n k) es))
      → Same (with_if (is_number n k) o (calls_of t macros n)) (chosen (taking macros (if_below (suc n) k) es))
  found_at n None None at ih = ih
  found_at n (Some m) None at ih = record { taken = λ st. ih.taken st; after = λ st. ih.after st }
  found_at n o (Some i) at ih = by_where i n o (nat_lt i n) (i == n) (nat_lt i (suc n)) (where_is i n) (λ e. grind arith) at ih

  with_macro_is : (n : ℕ) (o : Option Body) (c d : Calls) → Same (with_if (is_number n (index_named macro_name w macros)) o c) d → Same (with_macro t macros n o c) d
  with_macro_is n None c d h = h
  with_macro_is n (Some m) c d h = record { taken = λ st. h.taken st; after = λ st. h.after st }

  -- calls where the first n macros are known are those of the macro that is found
  chosen_is : (n : ℕ) → Same (calls_of t macros n) (chosen (called_macro macros n w es))
  chosen_is zero = subst (λ k. Same (userop_calls t) (chosen (taking macros k es))) (sym (none_below (index_named macro_name w macros))) (record { taken = λ st. refl; after = λ st. refl })
  chosen_is (suc n) = with_macro_is n (slice_get macros n) (calls_of t macros n) _ (found_at n (slice_get macros n) (index_named macro_name w macros) refl (chosen_is n))

-- ---- statements that call no macro

module _ (t : Tables) (macros : List Body) (n : ℕ) where
  -- a statement that calls none of the first n macros does what it does without macros
  pub steps_alone : (st : State) (x : Statement) → statement_macro macros n x ≡ None → taken t (calls_of t macros n) st x ≡ taken t (userop_calls t) st x
  steps_alone st (invoke w es) none = (chosen_is t macros w es n).taken st ∙ ap (λ k. (chosen t macros w es k).taken w es st) none
  steps_alone st (local w size value) none = refl
  steps_alone st (declare w k e) none = refl
  steps_alone st (assign left e) none = refl
  steps_alone st (goto to) none = refl
  steps_alone st (branch e to) none = refl
  steps_alone st (call_to to) none = refl
  steps_alone st (return e) none = refl
  steps_alone st (build w) none = refl
  steps_alone st (export what) none = refl
  steps_alone st (label w) none = refl

  pub after_alone : (st : State) (x : Statement) → statement_macro macros n x ≡ None → after t (calls_of t macros n) st x ≡ after t (userop_calls t) st x
  after_alone st (invoke w es) none = (chosen_is t macros w es n).after st ∙ ap (λ k. (chosen t macros w es k).after w es st) none
  after_alone st (local w size value) none = refl
  after_alone st (declare w k e) none = refl
  after_alone st (assign left e) none = refl
  after_alone st (goto to) none = refl
  after_alone st (branch e to) none = refl
  after_alone st (call_to to) none = refl
  after_alone st (return e) none = refl
  after_alone st (build w) none = refl
  after_alone st (export what) none = refl
  after_alone st (label w) none = refl

  -- a call of a macro
  pub steps_called : (st : State) (w : Name) (es : List Expression) (i : ℕ) (m : Body) → called_macro macros n w es ≡ Some i → slice_get macros i ≡ Some m
      → (calls_of t macros n).taken w es st ≡ (macro_calls t (calls_of t macros i) m).taken w es st
  steps_called st w es i m found at =
      (chosen_is t macros w es n).taken st ∙ ap (λ k. (chosen t macros w es k).taken w es st) found
      ∙ ap (λ o. (numbered t macros w es o (calls_of t macros i)).taken w es st) at

  pub after_called : (st : State) (w : Name) (es : List Expression) (i : ℕ) (m : Body) → called_macro macros n w es ≡ Some i → slice_get macros i ≡ Some m
      → (calls_of t macros n).after w es st ≡ (macro_calls t (calls_of t macros i) m).after w es st
  after_called st w es i m found at =
      (chosen_is t macros w es n).after st ∙ ap (λ k. (chosen t macros w es k).after w es st) found
      ∙ ap (λ o. (numbered t macros w es o (calls_of t macros i)).after w es st) at

-- ---- outcomes

abbrev made : List Step → ℕ → Outcome
made ss n = record { steps = ss; next = n }

behind-append : (a b : List Step) (o : Outcome) → behind (a ++ b) o ≡ behind a (behind b o)
behind-append a b o = ap (λ (ss : List Step). made ss o.next) (append_assoc a b o.steps)

module _ (t : Tables) (macros : List Body) where
  owed-last : (k : ℕ → ℕ → Outcome) (fs : List Frame) (f : Frame) → owed_from t macros k (fs ++ f ∷ []) ≡ frame_owes t macros f (owed_from t macros k fs)
  owed-last k [] f = refl
  owed-last k (g ∷ fs) f = owed-last (frame_owes t macros g k) fs f

  -- a statement, and then the rest
  first_owed : (c : Calls) (st : State) (x : Statement) (xs : List Statement) (k : ℕ → ℕ → Outcome)
      → then_owed t macros c st (x ∷ xs) k ≡ behind (taken t c st x) (then_owed t macros c (after t c st x) xs k)
  first_owed c st x xs k =
      behind-append (taken t c st x) (all_taken t c (after t c st x) xs) (k (all_after t c (after t c st x) xs).next (all_after t c (after t c st x) xs).calls)

  -- where nothing of a frame is left
  pub frame_ends : (f : Frame) (w : Work) → left_in f ≡ [] → outcome t macros w ≡ outcome_with t macros f w
  frame_ends f w none =
      let c = calls_of t macros f.limit in
      let k = owed t macros w.frames.items in
      let st = state_in f w in
      ap (λ (xs : List Statement). behind (steps_of w.steps.items) (then_owed t macros c st xs k)) (sym none)

  -- where a statement that calls no macro was read
  pub frame_goes_on : (f : Frame) (old new : Work) (x : Statement) → left_in f ≡ x ∷ left_in (gone_on f f.names) → statement_macro macros f.limit x ≡ None
      → GoesOn t f old x new → outcome t macros new ≡ outcome_with t macros f old
  frame_goes_on f old new x left none goes =
      let c = calls_of t macros f.limit in
      let k = owed t macros old.frames.items in
      let st = state_in f old in
      let st' = after t (userop_calls t) st x in
      let g = gone_on f st'.names in
      let xs = left_in g in
      let old_steps = steps_of old.steps.items in
      let frames : owed t macros new.frames.items ≡ frame_owes t macros g k = ap (λ (fs : List Frame). owed t macros fs) goes.frames ∙ owed-last nothing_left old.frames.items g in
      let there : outcome t macros new ≡ behind (old_steps ++ taken t (userop_calls t) st x) (then_owed t macros c st' xs k) =
      ap (λ (ss : List Step). behind ss (owed t macros new.frames.items new.next new.calls)) goes.steps
      ∙ ap (λ (o : ℕ → ℕ → Outcome). behind (old_steps ++ taken t (userop_calls t) st x) (o new.next new.calls)) frames
      ∙ ap (λ (n : ℕ). behind (old_steps ++ taken t (userop_calls t) st x) (frame_owes t macros g k n new.calls)) goes.next
      ∙ ap (λ (n : ℕ). behind (old_steps ++ taken t (userop_calls t) st x) (frame_owes t macros g k st'.next n)) goes.calls in
      let here : outcome_with t macros f old ≡ behind (old_steps ++ taken t (userop_calls t) st x) (then_owed t macros c st' xs k) =
      ap (λ (ys : List Statement). behind old_steps (then_owed t macros c st ys k)) left
      ∙ ap (λ (o : Outcome). behind old_steps o) (first_owed c st x xs k)
      ∙ sym (behind-append old_steps (taken t c st x) (then_owed t macros c (after t c st x) xs k))
      ∙ ap (λ (ss : List Step). behind (old_steps ++ ss) (then_owed t macros c (after t c st x) xs k)) (steps_alone t macros f.limit st x none)
      ∙ ap (λ (s : State). behind (old_steps ++ taken t (userop_calls t) st x) (then_owed t macros c s xs k)) (after_alone t macros f.limit st x none) in
      there ∙ sym here

  owed-two : (k : ℕ → ℕ → Outcome) (fs : List Frame) (f g : Frame) → owed_from t macros k (fs ++ f ∷ g ∷ []) ≡ frame_owes t macros g (frame_owes t macros f (owed_from t macros k fs))
  owed-two k [] f g = refl
  owed-two k (h ∷ fs) f g = owed-two (frame_owes t macros h k) fs f g

  -- where a call of a macro has begun
  pub frame_enters : (f inner : Frame) (old mid new : Work) (w : Name) (es : List Expression) (i : ℕ) (m : Body) → left_in f ≡ invoke w es ∷ left_in (gone_on f f.names)
      → called_macro macros f.limit w es ≡ Some i → slice_get macros i ≡ Some m → Begins t f.names old m i es inner mid
      → new.frames.items ≡ mid.frames.items ++ gone_on f f.names ∷ inner ∷ [] → new.steps ≡ mid.steps → new.next ≡ mid.next → new.calls ≡ mid.calls
      → outcome t macros new ≡ outcome_with t macros f old
  frame_enters f inner old mid new w es i m left found at begins frames steps next calls =
      let c = calls_of t macros f.limit in
      let k = owed t macros old.frames.items in
      let st = state_in f old in
      let g = gone_on f f.names in
      let xs = left_in g in
      let S = steps_of old.steps.items in
      let G = given t f.names old.next es in
      let ci = calls_of t macros i in
      let E = entered t st m es in
      let A = all_taken t ci E (body_of m) in
      let E' = all_after t ci E (body_of m) in
      let K = frame_owes t macros g k in
      let Z = then_owed t macros c (returned st E') xs k in
      let all_frames : owed t macros new.frames.items ≡ frame_owes t macros inner K =
      ap (λ (fs : List Frame). owed t macros fs) (frames ∙ ap (λ (fs : List Frame). fs ++ g ∷ inner ∷ []) begins.frames) ∙ owed-two nothing_left old.frames.items g inner in
      let all_steps : steps_of new.steps.items ≡ S ++ G = ap (λ v. steps_of v.items) steps ∙ begins.steps in
      let there : outcome t macros new ≡ behind (S ++ G) (then_owed t macros ci E (body_of m) K) =
      ap (λ (ss : List Step). behind ss (owed t macros new.frames.items new.next new.calls)) all_steps
      ∙ ap (λ (o : ℕ → ℕ → Outcome). behind (S ++ G) (o new.next new.calls)) all_frames
      ∙ ap (λ (n : ℕ). behind (S ++ G) (frame_owes t macros inner K n new.calls)) (next ∙ begins.next)
      ∙ ap (λ (n : ℕ). behind (S ++ G) (frame_owes t macros inner K E.next n)) (calls ∙ begins.calls)
      ∙ ap (λ (n : ℕ). behind (S ++ G) (then_owed t macros (calls_of t macros n) (resumed inner.names E.next E.calls) (left_in inner) K)) begins.limit
      ∙ ap (λ (ns : Names). behind (S ++ G) (then_owed t macros ci (resumed ns E.next E.calls) (left_in inner) K)) begins.names
      ∙ ap (λ (ys : List Statement). behind (S ++ G) (then_owed t macros ci E ys K)) begins.left in
      let link : behind (S ++ G) (then_owed t macros ci E (body_of m) K) ≡ behind (S ++ (G ++ A)) Z =
      sym (behind-append (S ++ G) A Z) ∙ ap (λ (ss : List Step). behind ss Z) (append_assoc S G A) in
      let here : outcome_with t macros f old ≡ behind (S ++ (G ++ A)) Z =
      ap (λ (ys : List Statement). behind S (then_owed t macros c st ys k)) left
      ∙ ap (λ (o : Outcome). behind S o) (first_owed c st (invoke w es) xs k)
      ∙ sym (behind-append S (c.taken w es st) (then_owed t macros c (c.after w es st) xs k))
      ∙ ap (λ (ss : List Step). behind (S ++ ss) (then_owed t macros c (c.after w es st) xs k)) (steps_called t macros f.limit st w es i m found at)
      ∙ ap (λ (s : State). behind (S ++ (G ++ A)) (then_owed t macros c s xs k)) (after_called t macros f.limit st w es i m found at) in
      there ∙ link ∙ sym here

  -- where a frame was taken off
  pub frame_off : (old new : Work) (f : Frame) → old.frames.items ≡ new.frames.items ++ f ∷ [] → outcome_with t macros f (record old { frames = new.frames }) ≡ outcome t macros old
  frame_off old new f frames =
      sym (ap (λ (fs : List Frame). behind (steps_of old.steps.items) (owed t macros fs old.next old.calls)) frames
      ∙ ap (λ (o : ℕ → ℕ → Outcome). behind (steps_of old.steps.items) (o old.next old.calls)) (owed-last nothing_left new.frames.items f))

-- ---- the macro that is found

-- It is there, and takes the arguments.
pub record Takes (macros : List Body) (i : ℕ) (es : List Expression) : Type 0 where
  pub m : Body
  pub at : slice_get macros i ≡ Some m
  pub same : length (parameters_of m) ≡ length es

module _ (macros : List Body) (es : List Expression) (i : ℕ) where
  takes_if : (j : ℕ) (m : Body) (b : Bool) → slice_get macros j ≡ Some m → (length (parameters_of m) == length es) ≡ b → (if b then Some j else None) ≡ Some i → Takes macros i es
  takes_if j m true at same found =
      let is : j ≡ i = cc in
      record { m = m; at = subst (λ k. slice_get macros k ≡ Some m) is at; same = grind arith }
  takes_if j m false at same found = absurd (let h : ⊥ = cc in h)

  takes_at : (j : ℕ) (o : Option Body) → slice_get macros j ≡ o → if_takes j o es ≡ Some i → Takes macros i es
  takes_at j None at found = absurd (let h : ⊥ = cc in h)
  takes_at j (Some m) at found = takes_if j m (length (parameters_of m) == length es) at refl found

  pub takes_of : (k : Option ℕ) → taking macros k es ≡ Some i → Takes macros i es
  takes_of None found = absurd (let h : ⊥ = cc in h)
  takes_of (Some j) found = takes_at j (slice_get macros j) refl found
