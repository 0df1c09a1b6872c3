-- The laws of what instructions do.
use Rattle.std.proofs.Common.{◌≡◌, ◌≢◌, ℕ, zero, suc, ◌==◌, false, List, [], ◌∷◌, refl, ap, subst, ◌∙◌, arith}
use Rattle.std.specs.Prelude.{if◌then◌else◌, ◌&&◌, ⊤, slice_index}
use Rattle.std.proofs.lemmas.Bool.Decides.{nat_tests}
use Rattle.sl_meaning_sections.specs.Laws.{All, EachStep, EachStepBelow, EndsAtNext, IsElsewhere, IsLabel, IsNoExit, IsNoJump, IsNoLabel, IsOutside, IsOutsideAll, JumpsAreToLabels, LocalsAreOwn}
use Rattle.sl_meaning_sections.specs.Nodes.{Node, Operands, after_outcome, child, cut_to, export_reference, exported, frame_of, given, goes_to, jump_limit, no_operands, node, opening, outcome, outcome_with, reference_of, references_of, term_reference}
use Rattle.sl_meaning_sections.specs.References.{Locals, Reference, Setting, State, local, memory, number, put, storage, with_local}
use Rattle.sl_meaning_sections.specs.Statements.{Outcome, assigned, ends, leaves, stops}
use Rattle.sl_meaning_sections.specs.Values.{Frame, meant, reference_at}
use Rattle.sl_meaning_sections.proofs.KeepLemmas.{DirectOk, Ends, Keeps, NodeOk, OperandsOk, StepOk, StepsOk, node_keeps}
use Rattle.sl_section_flat.specs.Sections as s
use Rattle.sl_section_flat.specs.Sections.{Direct, Export, Step, Symbol, Term}
use Rattle.sl_word.specs.Memories.{Memory}
use Rattle.sl_word.specs.Numbers.{residue}

-- ---- jumps

module _ (g : Setting) where
  abbrev SameLeft : State → State → Type 0
  SameLeft a b = b.left ≡ a.left

  put_left : (r : Reference) (n v : ℕ) (st : State) → (put g r n v st).left ≡ st.left
  put_left (storage space offset size) n v st = refl
  put_left (local k x size) n v st = refl
  put_left (number z) n v st = refl
  put_left (memory space size pointer width) n v st = refl

  assigned_left : (f : Frame) (a : Symbol) (n v : ℕ) (st : State) → (assigned g f a n v st).left ≡ st.left
  assigned_left f (s.register space offset k) n v st = refl
  assigned_left f (s.bit_range space offset k low count) n v st = refl
  assigned_left f (s.local x) n v st = refl
  assigned_left f (s.table i) n v st = put_left (reference_at f.refs i) n v st
  assigned_left f (s.attached i k) n v st = put_left (reference_at f.refs i) n v st
  assigned_left f (s.value i) n v st = put_left (reference_at f.refs i) n v st
  assigned_left f s.start n v st = refl
  assigned_left f s.next n v st = refl
  assigned_left f (s.integer z) n v st = refl

  abbrev JumpsNot : Node → Type 0
  JumpsNot = NodeOk g SameLeft ⊤ (λ f a. ⊤) ⊥ ⊤

  left_kept : Keeps g SameLeft ⊤ (λ f a. ⊤) ⊥ ⊤
  left_kept = record {
    same = λ st. refl;
    both = λ a b c h k. k ∙ h;
    stores = λ space offset n v st. refl;
    assigns = λ f a n v st ok. assigned_left f a n v st;
    jumps = λ m l left no. absurd no;
    exits = λ ok. tt;
  }

  no_jump : (f : Frame) (ss : List Step) → All IsNoJump ss → StepsOk g SameLeft ⊤ (λ f a. ⊤) ⊥ ⊤ f ss
  no_jump f [] h = tt
  no_jump f (a ∷ ss) h = (one a h.0, no_jump f ss h.1)
    where
      direct : (to : Direct) → IsNoLabel to → DirectOk g SameLeft ⊤ (λ f a. ⊤) ⊥ ⊤ to
      direct (s.to_label l) h = h
      direct (s.to_place a) h = tt

      one : (a : Step) → IsNoJump a → StepOk g SameLeft ⊤ (λ f a. ⊤) ⊥ ⊤ f a
      one (s.declare x n) h = tt
      one (s.set a t) h = tt
      one (s.set_bits a low count t) h = tt
      one (s.store space n pointer x t) h = tt
      one (s.run_user op ts) h = tt
      one (s.build i) h = tt
      one (s.label l) h = tt
      one (s.branch to) h = direct to h
      one (s.branch_if t to) h = direct to h
      one (s.branch_to t) h = tt
      one (s.call a) h = tt
      one (s.call_to t) h = tt
      one (s.return t) h = tt
      one (s.export what) h = tt

  mutual
    jumps_not : (n : Node) → EachStep IsNoJump n → JumpsNot n
    jumps_not (node k sec os) h = (no_jump (frame_of k sec (references_of g os)) sec.steps h.0, jump_not_below os h.1)

    jump_not_below : (os : Operands) → EachStepBelow IsNoJump os → OperandsOk g SameLeft ⊤ (λ f a. ⊤) ⊥ ⊤ os
    jump_not_below no_operands h = tt
    jump_not_below (given r os) h = jump_not_below os h
    jump_not_below (child n os) h = (jumps_not n h.0, jump_not_below os h.1)

pub jumps_are_to_labels : JumpsAreToLabels
jumps_are_to_labels g left root m st none is =
    subst (Ends g (SameLeft g) ⊤ (λ f a. ⊤) ⊥ ⊤ (opening g m left)) is
    (node_keeps g (SameLeft g) ⊤ (λ f a. ⊤) ⊥ ⊤ (left_kept g) root left (opening g m left) (jumps_not g root none))

-- ---- exits

module _ (g : Setting) where
  abbrev Any : State → State → Type 0
  Any a b = ⊤

  abbrev ExitsNot : Node → Type 0
  ExitsNot = NodeOk g Any ⊥ (λ f a. ⊤) ⊤ ⊥

  nothing_kept : Keeps g Any ⊥ (λ f a. ⊤) ⊤ ⊥
  nothing_kept = record {
    same = λ st. tt;
    both = λ a b c h k. tt;
    stores = λ space offset n v st. tt;
    assigns = λ f a n v st ok. tt;
    jumps = λ m l left ok. tt;
    exits = λ no. no;
  }

  no_exit : (f : Frame) (ss : List Step) → All IsNoExit ss → StepsOk g Any ⊥ (λ f a. ⊤) ⊤ ⊥ f ss
  no_exit f [] h = tt
  no_exit f (a ∷ ss) h = (one a h.0, no_exit f ss h.1)
    where
      direct : (to : Direct) → IsLabel to → DirectOk g Any ⊥ (λ f a. ⊤) ⊤ ⊥ to
      direct (s.to_label l) h = tt
      direct (s.to_place a) h = h

      one : (a : Step) → IsNoExit a → StepOk g Any ⊥ (λ f a. ⊤) ⊤ ⊥ f a
      one (s.declare x n) h = tt
      one (s.set a t) h = tt
      one (s.set_bits a low count t) h = tt
      one (s.store space n pointer x t) h = tt
      one (s.run_user op ts) h = tt
      one (s.build i) h = tt
      one (s.label l) h = tt
      one (s.branch to) h = direct to h
      one (s.branch_if t to) h = direct to h
      one (s.branch_to t) h = h
      one (s.call a) h = h
      one (s.call_to t) h = h
      one (s.return t) h = h
      one (s.export what) h = tt

  mutual
    exits_not : (n : Node) → EachStep IsNoExit n → ExitsNot n
    exits_not (node k sec os) h = (no_exit (frame_of k sec (references_of g os)) sec.steps h.0, exit_not_below os h.1)

    exit_not_below : (os : Operands) → EachStepBelow IsNoExit os → OperandsOk g Any ⊥ (λ f a. ⊤) ⊤ ⊥ os
    exit_not_below no_operands h = tt
    exit_not_below (given r os) h = exit_not_below os h
    exit_not_below (child n os) h = (exits_not n h.0, exit_not_below os h.1)

  at_next : (o : Outcome) (st : State) (m' : Memory) (address : ℕ) → Ends g Any ⊥ (λ f a. ⊤) ⊤ ⊥ st o → after_outcome g o ≡ goes_to address m' → address ≡ residue (slice_index g.sizes g.default) g.next
  at_next (ends st') st m' address e is = cc
  at_next (leaves target m) st m' address e is = absurd e
  at_next (stops fault m) st m' address e is = cc

  ended_at_next : (left : ℕ) (root : Node) (m m' : Memory) (address : ℕ) → EachStep IsNoExit root → after_outcome g (outcome_with g left root m) ≡ goes_to address m' → address ≡ residue (slice_index g.sizes g.default) g.next
  ended_at_next left root m m' address none is =
      at_next (outcome_with g left root m) (opening g m left) m' address (node_keeps g Any ⊥ (λ f a. ⊤) ⊤ ⊥ nothing_kept root left (opening g m left) (exits_not root none)) is

pub ends_at_next : EndsAtNext
unfolding outcome
ends_at_next g root m m' address none is = ended_at_next g jump_limit root m m' address none is

-- ---- locals

module _ (g : Setting) (k : ℕ) where
  abbrev SameLocals : State → State → Type 0
  SameLocals a b = (x : ℕ) → b.locals k x ≡ a.locals k x

  abbrev Spares : Frame → Symbol → Type 0
  Spares f a = IsElsewhere k (meant g f a)

  other : (j x v y : ℕ) (l : Locals) → k ≢ j → with_local j x v l k y ≡ l k y
  other j x v y l apart = ap (λ b. if b && (y == x) then v else l k y) (let e : (k == j) ≡ false = grind (arith, nat_tests) in e)

  put_spares : (r : Reference) (n v : ℕ) (st : State) → IsElsewhere k r → SameLocals st (put g r n v st)
  put_spares (storage space offset size) n v st h x = refl
  put_spares (local j y size) n v st h x = other j y v x st.locals h
  put_spares (number z) n v st h x = refl
  put_spares (memory space size pointer width) n v st h x = refl

  assigned_spares : (f : Frame) (a : Symbol) (n v : ℕ) (st : State) → Spares f a → SameLocals st (assigned g f a n v st)
  assigned_spares f (s.register space offset j) n v st h x = refl
  assigned_spares f (s.bit_range space offset j low count) n v st h x = refl
  assigned_spares f (s.local y) n v st h x = other f.node y v x st.locals h
  assigned_spares f (s.table i) n v st h x = put_spares (reference_at f.refs i) n v st h x
  assigned_spares f (s.attached i j) n v st h x = put_spares (reference_at f.refs i) n v st h x
  assigned_spares f (s.value i) n v st h x = put_spares (reference_at f.refs i) n v st h x
  assigned_spares f s.start n v st h x = refl
  assigned_spares f s.next n v st h x = refl
  assigned_spares f (s.integer z) n v st h x = refl

  locals_kept : Keeps g SameLocals ⊤ Spares ⊤ ⊤
  locals_kept = record {
    same = λ st x. refl;
    both = λ a b c h j x. j x ∙ h x;
    stores = λ space offset n v st x. refl;
    assigns = λ f a n v st ok. assigned_spares f a n v st ok;
    jumps = λ m l left ok x. refl;
    exits = λ ok. tt;
  }

  abbrev Elsewhere : List Reference → Type 0
  Elsewhere [] = ⊤
  Elsewhere (r ∷ rs) = IsElsewhere k r × Elsewhere rs

  at_elsewhere : (rs : List Reference) (i : ℕ) → Elsewhere rs → IsElsewhere k (reference_at rs i)
  at_elsewhere [] i h = tt
  at_elsewhere (r ∷ rs) zero h = h.0
  at_elsewhere (r ∷ rs) (suc i) h = at_elsewhere rs i h.1

  module _ (f : Frame) (own : k ≢ f.node) (refs : Elsewhere f.refs) where
    meant_elsewhere : (a : Symbol) → Spares f a
    meant_elsewhere (s.register space offset j) = tt
    meant_elsewhere (s.bit_range space offset j low count) = tt
    meant_elsewhere (s.local y) = own
    meant_elsewhere (s.table i) = at_elsewhere f.refs i refs
    meant_elsewhere (s.attached i j) = at_elsewhere f.refs i refs
    meant_elsewhere (s.value i) = at_elsewhere f.refs i refs
    meant_elsewhere s.start = tt
    meant_elsewhere s.next = tt
    meant_elsewhere (s.integer z) = tt

    term_elsewhere : (t : Term) → IsElsewhere k (term_reference g f t)
    term_elsewhere (s.name a x) = meant_elsewhere a
    term_elsewhere (s.number v x) = tt
    term_elsewhere (s.sized v n x) = tt
    term_elsewhere (s.paren t x) = tt
    term_elsewhere (s.kept t n x) = tt
    term_elsewhere (s.dropped t n x) = tt
    term_elsewhere (s.bits t low count x) = tt
    term_elsewhere (s.load space n t x) = tt
    term_elsewhere (s.one op t x) = tt
    term_elsewhere (s.two op order a b x) = tt
    term_elsewhere (s.user op ts x) = tt

    cut_elsewhere : (n : ℕ) (r : Reference) → IsElsewhere k r → IsElsewhere k (cut_to n r)
    cut_elsewhere n (storage space offset size) h = tt
    cut_elsewhere n (local j x size) h = h
    cut_elsewhere n (number z) h = tt
    cut_elsewhere n (memory space size pointer width) h = tt

    export_elsewhere : (what : Export) → IsElsewhere k (export_reference g f what)
    export_elsewhere (s.exports a x) = meant_elsewhere a
    export_elsewhere (s.exports_constant n t x) = cut_elsewhere n (term_reference g f t) (term_elsewhere t)
    export_elsewhere (s.exports_memory space n t x) = tt

    exported_elsewhere : (ss : List Step) → IsElsewhere k (exported g f ss)
    exported_elsewhere [] = tt
    exported_elsewhere (s.export what ∷ ss) = export_elsewhere what
    exported_elsewhere (s.declare x n ∷ ss) = exported_elsewhere ss
    exported_elsewhere (s.set a t ∷ ss) = exported_elsewhere ss
    exported_elsewhere (s.set_bits a low count t ∷ ss) = exported_elsewhere ss
    exported_elsewhere (s.store space n pointer x t ∷ ss) = exported_elsewhere ss
    exported_elsewhere (s.run_user op ts ∷ ss) = exported_elsewhere ss
    exported_elsewhere (s.build i ∷ ss) = exported_elsewhere ss
    exported_elsewhere (s.label l ∷ ss) = exported_elsewhere ss
    exported_elsewhere (s.branch to ∷ ss) = exported_elsewhere ss
    exported_elsewhere (s.branch_if t to ∷ ss) = exported_elsewhere ss
    exported_elsewhere (s.branch_to t ∷ ss) = exported_elsewhere ss
    exported_elsewhere (s.call a ∷ ss) = exported_elsewhere ss
    exported_elsewhere (s.call_to t ∷ ss) = exported_elsewhere ss
    exported_elsewhere (s.return t ∷ ss) = exported_elsewhere ss

    steps_spare : (ss : List Step) → StepsOk g SameLocals ⊤ Spares ⊤ ⊤ f ss
    steps_spare [] = tt
    steps_spare (a ∷ ss) = (one a, steps_spare ss)
      where
        direct : (to : Direct) → DirectOk g SameLocals ⊤ Spares ⊤ ⊤ to
        direct (s.to_label l) = tt
        direct (s.to_place a) = tt

        one : (a : Step) → StepOk g SameLocals ⊤ Spares ⊤ ⊤ f a
        one (s.declare x n) = tt
        one (s.set a t) = meant_elsewhere a
        one (s.set_bits a low count t) = meant_elsewhere a
        one (s.store space n pointer x t) = tt
        one (s.run_user op ts) = tt
        one (s.build i) = tt
        one (s.label l) = tt
        one (s.branch to) = direct to
        one (s.branch_if t to) = direct to
        one (s.branch_to t) = tt
        one (s.call a) = tt
        one (s.call_to t) = tt
        one (s.return t) = tt
        one (s.export what) = tt

  mutual
    reference_elsewhere : (n : Node) → IsOutside k n → IsElsewhere k (reference_of g n)
    reference_elsewhere (node j sec os) h =
        exported_elsewhere (frame_of j sec (references_of g os)) h.0 (references_elsewhere os h.1) sec.steps

    references_elsewhere : (os : Operands) → IsOutsideAll k os → Elsewhere (references_of g os)
    references_elsewhere no_operands h = tt
    references_elsewhere (given r os) h = (h.0, references_elsewhere os h.1)
    references_elsewhere (child n os) h = (reference_elsewhere n h.0, references_elsewhere os h.1)

  mutual
    spares : (n : Node) → IsOutside k n → NodeOk g SameLocals ⊤ Spares ⊤ ⊤ n
    spares (node j sec os) h =
        (steps_spare (frame_of j sec (references_of g os)) h.0 (references_elsewhere os h.1) sec.steps, spares_all os h.1)

    spares_all : (os : Operands) → IsOutsideAll k os → OperandsOk g SameLocals ⊤ Spares ⊤ ⊤ os
    spares_all no_operands h = tt
    spares_all (given r os) h = spares_all os h.1
    spares_all (child n os) h = (spares n h.0, spares_all os h.1)

pub locals_are_own : LocalsAreOwn
locals_are_own g most n st st' k outside is =
    subst (Ends g (SameLocals g k) ⊤ (Spares g k) ⊤ ⊤ st) is (node_keeps g (SameLocals g k) ⊤ (Spares g k) ⊤ ⊤ (locals_kept g k) n most st (spares g k n outside))
