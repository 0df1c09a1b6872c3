-- Steps that jump only within themselves do in a longer section what they do as one of their own.
use Rattle.std.proofs.Common.{◌≡◌, ℕ, zero, suc, ◌≤◌, ◌==◌, Bool, true, false, List, [], ◌∷◌, ◌++◌, Ok, Err, refl, sym, ap, ◌∙◌, arith}
use Rattle.std.specs.Prelude.{if◌then◌else◌, ⊤, Result}
use Rattle.sl_meaning_sections.proofs.KeepLemmas.{Ends, Keeps, NodeOk, OperandsOk, DirectOk, StepOk, StepsOk, node_keeps}
use Rattle.sl_meaning_sections.specs.Nodes.{Node, Operands, child, child_runs, frame_of, given, no_operands, node, references_of}
use Rattle.sl_meaning_sections.specs.References.{Locals, Reference, Setting, State, local, memory, number, put, put_bytes, storage}
use Rattle.sl_meaning_sections.specs.Statements.{Next, Outcome, assigned, behind, bits_assigned, counted, ends, goes, is_label, leaves, section_runs, steps_run, stops, then_do, value_in, with_value}
use Rattle.sl_meaning_sections.specs.Values.{Fault, Frame, jumps_too_often, reference_at, size_of, space_of, symbol_size, symbol_value, with_bits}
use Rattle.sl_section_flat.specs.Sections as s
use Rattle.sl_section_flat.specs.Sections.{Direct, Label, Step, Symbol}
use Rattle.sl_word.specs.Memories.{Memory}

-- ---- jumps that are left

-- No more jumps are left than so many.
abbrev pub HasAtMost : ℕ → Outcome → Type 0
HasAtMost b (ends st) = st.left ≤ b
HasAtMost b (leaves target m) = ⊤
HasAtMost b (stops fault m) = ⊤

module _ (g : Setting) where
  put_left : (r : Reference) (n v : ℕ) (st : State) → (put g r n v st).left ≡ st.left
  put_left (storage space offset size) n v st = refl
  put_left (local k x size) n v st = refl
  put_left (number z) n v st = refl
  put_left (memory space size pointer width) n v st = refl

  assigned_left : (f : Frame) (a : Symbol) (n v : ℕ) (st : State) → (assigned g f a n v st).left ≡ st.left
  assigned_left f (s.register space offset k) n v st = refl
  assigned_left f (s.bit_range space offset k low count) n v st = refl
  assigned_left f (s.local x) n v st = refl
  assigned_left f (s.table i) n v st = put_left (reference_at f.refs i) n v st
  assigned_left f (s.attached i k) n v st = put_left (reference_at f.refs i) n v st
  assigned_left f (s.value i) n v st = put_left (reference_at f.refs i) n v st
  assigned_left f s.start n v st = refl
  assigned_left f s.next n v st = refl
  assigned_left f (s.integer z) n v st = refl

  abbrev Falls : State → State → Type 0
  Falls a b = b.left ≤ a.left

  falls_kept : Keeps g Falls ⊤ (λ f a. ⊤) ⊤ ⊤
  falls_kept = record {
    same = λ st. omega arith;
    both = λ a b c h k. omega (arith, h, k);
    stores = λ space offset n v st. omega arith;
    assigns = λ f a n v st ok. let is = assigned_left f a n v st in omega (arith, is);
    jumps = λ m l left ok. omega arith;
    exits = λ ok. tt;
  }

  direct_ok : (to : Direct) → DirectOk g Falls ⊤ (λ f a. ⊤) ⊤ ⊤ to
  direct_ok (s.to_label l) = tt
  direct_ok (s.to_place a) = tt

  step_ok : (f : Frame) (a : Step) → StepOk g Falls ⊤ (λ f a. ⊤) ⊤ ⊤ f a
  step_ok f (s.declare x n) = tt
  step_ok f (s.set a t) = tt
  step_ok f (s.set_bits a low count t) = tt
  step_ok f (s.store space n pointer x t) = tt
  step_ok f (s.run_user op ts) = tt
  step_ok f (s.build i) = tt
  step_ok f (s.label l) = tt
  step_ok f (s.branch to) = direct_ok to
  step_ok f (s.branch_if t to) = direct_ok to
  step_ok f (s.branch_to t) = tt
  step_ok f (s.call a) = tt
  step_ok f (s.call_to t) = tt
  step_ok f (s.return t) = tt
  step_ok f (s.export what) = tt

  steps_ok : (f : Frame) (ss : List Step) → StepsOk g Falls ⊤ (λ f a. ⊤) ⊤ ⊤ f ss
  steps_ok f [] = tt
  steps_ok f (a ∷ ss) = (step_ok f a, steps_ok f ss)

  mutual
    node_ok : (n : Node) → NodeOk g Falls ⊤ (λ f a. ⊤) ⊤ ⊤ n
    node_ok (node k sec os) = (steps_ok (frame_of k sec (references_of g os)) sec.steps, operands_ok os)

    operands_ok : (os : Operands) → OperandsOk g Falls ⊤ (λ f a. ⊤) ⊤ ⊤ os
    operands_ok no_operands = tt
    operands_ok (given r os) = operands_ok os
    operands_ok (child n os) = (node_ok n, operands_ok os)

  at_most : (b : ℕ) (st : State) (o : Outcome) → st.left ≤ b → Ends g Falls ⊤ (λ f a. ⊤) ⊤ ⊤ st o → HasAtMost b o
  at_most b st (ends new) here falls = omega (arith, here, falls)
  at_most b st (leaves target m) here falls = tt
  at_most b st (stops fault m) here falls = tt

  -- what operands do takes jumps, and gives none
  pub children_fall : (os : Operands) (top i b : ℕ) (st : State) → st.left ≤ b → HasAtMost b (child_runs g top os i st)
  children_fall no_operands top i b st here = here
  children_fall (given r os) top zero b st here = here
  children_fall (given r os) top (suc i) b st here = children_fall os top i b st here
  children_fall (child n os) top zero b st here =
      at_most b st _ here (node_keeps g Falls ⊤ (λ f a. ⊤) ⊤ ⊤ falls_kept n top st (node_ok n))
  children_fall (child n os) top (suc i) b st here = children_fall os top i b st here

-- ---- labels that steps place, and labels to which they jump

module _ (Q P : Label → Type 0) where
  abbrev pub LeadsSo : Direct → Type 0
  LeadsSo (s.to_label l) = P l
  LeadsSo (s.to_place a) = ⊤

  abbrev pub StepUses : Step → Type 0
  StepUses (s.label l) = Q l
  StepUses (s.branch to) = LeadsSo to
  StepUses (s.branch_if t to) = LeadsSo to
  StepUses _ = ⊤

  abbrev pub Uses : List Step → Type 0
  Uses [] = ⊤
  Uses (a ∷ ss) = StepUses a × Uses ss

  pub uses_both : (xs ys : List Step) → Uses xs → Uses ys → Uses (xs ++ ys)
  uses_both [] ys h k = k
  uses_both (x ∷ xs) ys h k = (h.0, uses_both xs ys h.1 k)

  behind_uses : (l : Label) (ss : List Step) → Uses ss → Uses (behind l ss)
  behind_uses l [] h = tt
  behind_uses l (a ∷ ss) h = by (is_label a l) (behind_uses l ss h.1)
    where
      by : (b : Bool) → Uses (behind l ss) → Uses (if b then ss else behind l ss)
      by true rest = h.1
      by false rest = rest

abbrev pub Any : Label → Type 0
Any l = ⊤

any_direct : (to : Direct) → LeadsSo Any Any to
any_direct (s.to_label l) = tt
any_direct (s.to_place a) = tt

any_step : (a : Step) → StepUses Any Any a
any_step (s.declare x n) = tt
any_step (s.set a t) = tt
any_step (s.set_bits a low count t) = tt
any_step (s.store space n pointer x t) = tt
any_step (s.run_user op ts) = tt
any_step (s.build i) = tt
any_step (s.label l) = tt
any_step (s.branch to) = any_direct to
any_step (s.branch_if t to) = any_direct to
any_step (s.branch_to t) = tt
any_step (s.call a) = tt
any_step (s.call_to t) = tt
any_step (s.return t) = tt
any_step (s.export what) = tt

pub any_uses : (ss : List Step) → Uses Any Any ss
any_uses [] = tt
any_uses (a ∷ ss) = (any_step a, any_uses ss)

-- ---- steps before others

then_ends : (o : Outcome) → o ≡ then_do o ends
then_ends (ends st) = refl
then_ends (leaves target m) = refl
then_ends (stops fault m) = refl

module _ (g : Setting) (f : Frame) (child : ℕ → Next)
    (falls : (i b : ℕ) (st : State) → st.left ≤ b → HasAtMost b (child i st)) where
  -- by what jumps do in the longer steps and in these, and what is done behind these
  module _ (b : ℕ) (P : Label → Type 0) (jump own : Label → Next) (rest : List Step) (next : Next)
      (goes_on : (st : State) → st.left ≤ b → steps_run g f jump child rest st ≡ next st)
      (jumps : (l : Label) (st : State) → P l → st.left ≤ b → jump l st ≡ then_do (own l st) next) where
    valued : (r : Result ℕ Fault) (m : Memory) (one other : ℕ → Outcome)
        → ((v : ℕ) → one v ≡ then_do (other v) next) → with_value r m one ≡ then_do (with_value r m other) next
    valued (Ok v) m one other h = h v
    valued (Err fault) m one other h = refl

    either : (c : Bool) (x y x' y' : Outcome) → x ≡ then_do x' next → y ≡ then_do y' next
        → (if c then x else y) ≡ then_do (if c then x' else y') next
    either true x y x' y' hx hy = hx
    either false x y x' y' hx hy = hy

    followed : (o : Outcome) (one other : Next) → HasAtMost b o
        → ((st : State) → st.left ≤ b → one st ≡ then_do (other st) next)
        → then_do o one ≡ then_do (then_do o other) next
    followed (ends st) one other here h = h st here
    followed (leaves target m) one other here h = refl
    followed (stops fault m) one other here h = refl

    direct_runs : (to : Direct) (st : State) → LeadsSo Any P to → st.left ≤ b
        → goes g f jump to st ≡ then_do (goes g f own to st) next
    direct_runs (s.to_label l) st leads here = jumps l st leads here
    direct_runs (s.to_place a) st leads here = refl

    steps_before : (ss : List Step) (st : State) → Uses Any P ss → st.left ≤ b
        → steps_run g f jump child (ss ++ rest) st ≡ then_do (steps_run g f own child ss st) next
    steps_before [] st have here = goes_on st here
    steps_before (s.declare x n ∷ ss) st have here = steps_before ss st have.1 here
    steps_before (s.set a t ∷ ss) st have here =
        valued (value_in g f st t) st.memory _ _ (λ v.
        let is = assigned_left g f a (size_of g f t) v st in
        steps_before ss (assigned g f a (size_of g f t) v st) have.1 (omega (arith, is, here)))
    steps_before (s.set_bits a low count t ∷ ss) st have here =
        valued (value_in g f st t) st.memory _ _ (λ v.
        let is = assigned_left g f a (symbol_size g f a).bytes (with_bits low count (symbol_value g f st.memory st.locals a (symbol_size g f a).bytes) v) st in
        steps_before ss (bits_assigned g f a low count (symbol_size g f a).bytes v st) have.1 (omega (arith, is, here)))
    steps_before (s.store space n pointer x t ∷ ss) st have here =
        valued (value_in g f st t) st.memory _ _ (λ v. valued (value_in g f st pointer) st.memory _ _ (λ p.
        steps_before ss (put_bytes g (space_of g space) p (size_of g f t) v st) have.1 here))
    steps_before (s.run_user op ts ∷ ss) st have here = refl
    steps_before (s.build i ∷ ss) st have here =
        followed (child i st) _ _ (falls i b st here) (λ now left. steps_before ss now have.1 left)
    steps_before (s.label l ∷ ss) st have here = steps_before ss st have.1 here
    steps_before (s.branch to ∷ ss) st have here = direct_runs to st have.0 here
    steps_before (s.branch_if t to ∷ ss) st have here =
        valued (value_in g f st t) st.memory _ _ (λ v.
        either (v == 0) _ _ _ _ (steps_before ss st have.1 here) (direct_runs to st have.0 here))
    steps_before (s.branch_to t ∷ ss) st have here = valued (value_in g f st t) st.memory _ _ (λ v. refl)
    steps_before (s.call a ∷ ss) st have here = refl
    steps_before (s.call_to t ∷ ss) st have here = valued (value_in g f st t) st.memory _ _ (λ v. refl)
    steps_before (s.return t ∷ ss) st have here = valued (value_in g f st t) st.memory _ _ (λ v. refl)
    steps_before (s.export what ∷ ss) st have here = steps_before ss st have.1 here

  -- ---- how many jumps can be left makes no difference where fewer are

  counted_none : (left : ℕ) (m : Memory) (l : Locals) (next : Next) → left ≤ 0
      → stops jumps_too_often m ≡ counted left m l next
  counted_none zero m l next here = refl
  counted_none (suc left) m l next here = absurd (omega (arith, here))

  counted_both : (most left : ℕ) (m : Memory) (l : Locals) (one other : Next) (next : Next) → left ≤ suc most
      → ((st : State) → st.left ≤ most → one st ≡ then_do (other st) next)
      → counted left m l one ≡ then_do (counted left m l other) next
  counted_both most zero m l one other next here h = refl
  counted_both most (suc left) m l one other next here h = h _ (omega (arith, here))

  nothing_more : (xs : List Step) → xs ++ [] ≡ xs
  nothing_more [] = refl
  nothing_more (x ∷ xs) = ap (λ (l : List Step). x ∷ l) (nothing_more xs)

  one_more : (most : ℕ) (all ss : List Step) (st : State) → st.left ≤ most
      → section_runs g f most child all ss st ≡ section_runs g f (suc most) child all ss st
  unfolding section_runs
  one_more zero all ss st here =
      ap (λ (l : List Step). section_runs g f zero child all l st) (sym (nothing_more ss))
      ∙ steps_before zero Any _ _ [] ends (λ now left. refl)
      (λ l now leads left. counted_none now.left now.memory now.locals _ left ∙ then_ends _) ss st (any_uses ss) here
      ∙ sym (then_ends _)
  one_more (suc most) all ss st here =
      ap (λ (l : List Step). section_runs g f (suc most) child all l st) (sym (nothing_more ss))
      ∙ steps_before (suc most) Any _ _ [] ends (λ now left. refl)
      (λ l now leads left. counted_both most now.left now.memory now.locals _ _ ends left
      (λ later few. one_more most all (behind l all) later few ∙ then_ends _)) ss st (any_uses ss) here
      ∙ sym (then_ends _)

  -- ---- a stretch of a section

  module _ (all own rest : List Step) where
    -- What stands behind a label is, in the longer section, what stands behind it here, and then the rest.
    abbrev pub IsOwn : Label → Type 0
    IsOwn l = behind l all ≡ behind l own ++ rest

    module _ (closed : Uses Any IsOwn own) where
      stretch : (most : ℕ) (ss : List Step) (next : Next) (st : State) → Uses Any IsOwn ss → st.left ≤ most
          → ((now : State) → now.left ≤ most → section_runs g f most child all rest now ≡ next now)
          → section_runs g f most child all (ss ++ rest) st ≡ then_do (section_runs g f most child own ss st) next
      unfolding section_runs
      stretch zero ss next st have here goes_on =
          steps_before zero IsOwn _ _ rest next goes_on (λ l now leads left. refl) ss st have here
      stretch (suc most) ss next st have here goes_on =
          steps_before (suc most) IsOwn _ _ rest next goes_on
          (λ l now leads left. counted_both most now.left now.memory now.locals _ _ next left (λ later few.
          ap (λ (to : List Step). section_runs g f most child all to later) leads
          ∙ stretch most (behind l own) next later (behind_uses Any IsOwn l own closed) few
          (λ last fewer. one_more most all rest last fewer ∙ goes_on last (omega (arith, fewer)))))
          ss st have here

      pub stretch_is_section : (most : ℕ) (st : State) → st.left ≤ most
          → section_runs g f most child all (own ++ rest) st
          ≡ then_do (section_runs g f most child own own st) (section_runs g f most child all rest)
      stretch_is_section most st here =
          stretch most own (section_runs g f most child all rest) st closed here (λ now left. refl)
