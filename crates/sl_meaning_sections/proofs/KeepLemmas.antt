-- What each statement keeps, an instruction keeps.
use Rattle.std.proofs.Common.{ℕ, zero, suc, ◌==◌, Bool, true, false, List, [], ◌∷◌, Ok, Err}
use Rattle.std.specs.Prelude.{if◌then◌else◌, ⊤, Result}
use Rattle.sl_meaning_sections.specs.Nodes.{Node, Operands, child, child_runs, frame_of, given, no_operands, node, node_runs, references_of}
use Rattle.sl_meaning_sections.specs.References.{Locals, Setting, State, put_bytes}
use Rattle.sl_meaning_sections.specs.Statements.{Next, Outcome, assigned, behind, bits_assigned, counted, ends, goes, is_label, leaves, section_runs, steps_run, stops, then_do, value_in, with_value}
use Rattle.sl_meaning_sections.specs.Values.{Fault, Frame, size_of, space_of, symbol_size}
use Rattle.sl_section_flat.specs.Sections as s
use Rattle.sl_section_flat.specs.Sections.{Direct, Label, Step, Symbol}
use Rattle.sl_word.specs.Memories.{Memory}

module _ (g : Setting) (R : State → State → Type 0) (Out : Type 0) (Sym : Frame → Symbol → Type 0) (Jump Exit : Type 0) where
  abbrev pub Ends : State → Outcome → Type 0
  Ends st (ends st') = R st st'
  Ends st (leaves target m) = Out
  Ends st (stops fault m) = ⊤

  abbrev pub DirectOk : Direct → Type 0
  DirectOk (s.to_label l) = Jump
  DirectOk (s.to_place a) = Exit

  abbrev pub StepOk : Frame → Step → Type 0
  StepOk f (s.set a t) = Sym f a
  StepOk f (s.set_bits a low count t) = Sym f a
  StepOk f (s.branch to) = DirectOk to
  StepOk f (s.branch_if t to) = DirectOk to
  StepOk f (s.branch_to t) = Exit
  StepOk f (s.call a) = Exit
  StepOk f (s.call_to t) = Exit
  StepOk f (s.return t) = Exit
  StepOk f _ = ⊤

  abbrev pub StepsOk : Frame → List Step → Type 0
  StepsOk f [] = ⊤
  StepsOk f (a ∷ ss) = StepOk f a × StepsOk f ss

  abbrev mutual
    pub NodeOk : Node → Type 0
    NodeOk (node k sec os) = StepsOk (frame_of k sec (references_of g os)) sec.steps × OperandsOk os

    pub OperandsOk : Operands → Type 0
    OperandsOk no_operands = ⊤
    OperandsOk (given r os) = OperandsOk os
    OperandsOk (child n os) = NodeOk n × OperandsOk os

  -- what each statement keeps
  pub record Keeps : Type 0 where
    pub same : (st : State) → R st st
    pub both : (a b c : State) → R a b → R b c → R a c
    pub stores : (space offset n v : ℕ) (st : State) → R st (put_bytes g space offset n v st)
    pub assigns : (f : Frame) (a : Symbol) (n v : ℕ) (st : State) → Sym f a → R st (assigned g f a n v st)
    pub jumps : (m : Memory) (l : Locals) (left : ℕ) → Jump → R (record { memory = m; locals = l; left = suc left }) (record { memory = m; locals = l; left = left })
    pub exits : Exit → Out

  module _ (keeps : Keeps) where
    later : (a b : State) (o : Outcome) → R a b → Ends b o → Ends a o
    later a b (ends st) r e = keeps.both a b st r e
    later a b (leaves target m) r e = e
    later a b (stops fault m) r e = tt

    valued : (r : Result ℕ Fault) (st : State) (next : ℕ → Outcome) → ((v : ℕ) → Ends st (next v)) → Ends st (with_value r st.memory next)
    valued (Ok v) st next h = h v
    valued (Err fault) st next h = tt

    followed : (o : Outcome) (st : State) (next : Next) → Ends st o → ((st' : State) → Ends st' (next st')) → Ends st (then_do o next)
    followed (ends st') st next e h = later st st' (next st') e (h st')
    followed (leaves target m) st next e h = e
    followed (stops fault m) st next e h = tt

    either : (b : Bool) (st : State) (x y : Outcome) → Ends st x → Ends st y → Ends st (if b then x else y)
    either true st x y hx hy = hx
    either false st x y hx hy = hy

    module _ (f : Frame) (jump : Label → Next) (child : ℕ → Next) (jumps : (l : Label) (st : State) → Jump → Ends st (jump l st)) (children : (i : ℕ) (st : State) → Ends st (child i st)) where
      direct_keeps : (to : Direct) (st : State) → DirectOk to → Ends st (goes g f jump to st)
      direct_keeps (s.to_label l) st ok = jumps l st ok
      direct_keeps (s.to_place a) st ok = keeps.exits ok

      steps_keep : (ss : List Step) (st : State) → StepsOk f ss → Ends st (steps_run g f jump child ss st)
      steps_keep [] st ok = keeps.same st
      steps_keep (s.declare x n ∷ ss) st ok = steps_keep ss st ok.1
      steps_keep (s.set a t ∷ ss) st ok =
          valued (value_in g f st t) st _ (λ v. let next = assigned g f a (size_of g f t) v st in later st next _ (keeps.assigns f a (size_of g f t) v st ok.0) (steps_keep ss next ok.1))
      steps_keep (s.set_bits a low count t ∷ ss) st ok =
          valued (value_in g f st t) st _ (λ v. let next = bits_assigned g f a low count (symbol_size g f a).bytes v st in later st next _ (keeps.assigns f a (symbol_size g f a).bytes _ st ok.0) (steps_keep ss next ok.1))
      steps_keep (s.store space n pointer x t ∷ ss) st ok =
          valued (value_in g f st t) st _ (λ v. valued (value_in g f st pointer) st _ (λ p. let next = put_bytes g (space_of g space) p (size_of g f t) v st in later st next _ (keeps.stores (space_of g space) p (size_of g f t) v st) (steps_keep ss next ok.1)))
      steps_keep (s.run_user op ts ∷ ss) st ok = tt
      steps_keep (s.build i ∷ ss) st ok = followed (child i st) st _ (children i st) (λ st'. steps_keep ss st' ok.1)
      steps_keep (s.label l ∷ ss) st ok = steps_keep ss st ok.1
      steps_keep (s.branch to ∷ ss) st ok = direct_keeps to st ok.0
      steps_keep (s.branch_if t to ∷ ss) st ok =
          valued (value_in g f st t) st _ (λ v. either (v == 0) st _ _ (steps_keep ss st ok.1) (direct_keeps to st ok.0))
      steps_keep (s.branch_to t ∷ ss) st ok = valued (value_in g f st t) st _ (λ v. keeps.exits ok.0)
      steps_keep (s.call a ∷ ss) st ok = keeps.exits ok.0
      steps_keep (s.call_to t ∷ ss) st ok = valued (value_in g f st t) st _ (λ v. keeps.exits ok.0)
      steps_keep (s.return t ∷ ss) st ok = valued (value_in g f st t) st _ (λ v. keeps.exits ok.0)
      steps_keep (s.export what ∷ ss) st ok = steps_keep ss st ok.1

    behind_ok : (f : Frame) (l : Label) (ss : List Step) → StepsOk f ss → StepsOk f (behind l ss)
    behind_ok f l [] ok = tt
    behind_ok f l (a ∷ ss) ok = picked (is_label a l) (behind_ok f l ss ok.1)
      where
        picked : (b : Bool) → StepsOk f (behind l ss) → StepsOk f (if b then ss else behind l ss)
        picked true h = ok.1
        picked false h = h

    counted_keeps : (left : ℕ) (m : Memory) (l : Locals) (next : Next) → Jump → ((st : State) → Ends st (next st)) → Ends (record { memory = m; locals = l; left = left }) (counted left m l next)
    counted_keeps zero m l next ok h = tt
    counted_keeps (suc left) m l next ok h = later _ _ (next _) (keeps.jumps m l left ok) (h _)

    section_keeps : (f : Frame) (kid : ℕ → Next) (children : (i : ℕ) (st : State) → Ends st (kid i st)) (most : ℕ) (all ss : List Step) (st : State) → StepsOk f all → StepsOk f ss → Ends st (section_runs g f most kid all ss st)
    unfolding section_runs
    section_keeps f kid children zero all ss st ok here = steps_keep f _ kid (λ l st ok. tt) children ss st here
    section_keeps f kid children (suc most) all ss st ok here =
        steps_keep f _ kid (λ l st jump. counted_keeps st.left st.memory st.locals _ jump (λ st'. section_keeps f kid children most all (behind l all) st' ok (behind_ok f l all ok))) children ss st here

    mutual
      pub node_keeps : (n : Node) (most : ℕ) (st : State) → NodeOk n → Ends st (node_runs g most n st)
      node_keeps (node k sec os) most st ok =
          section_keeps (frame_of k sec (references_of g os)) (child_runs g most os) (λ i st. child_keeps os most i st ok.1) most sec.steps sec.steps st ok.0 ok.0

      child_keeps : (os : Operands) (most i : ℕ) (st : State) → OperandsOk os → Ends st (child_runs g most os i st)
      child_keeps no_operands most i st ok = keeps.same st
      child_keeps (given r os) most zero st ok = keeps.same st
      child_keeps (given r os) most (suc i) st ok = child_keeps os most i st ok
      child_keeps (child n os) most zero st ok = node_keeps n most st ok.0
      child_keeps (child n os) most (suc i) st ok = child_keeps os most i st ok.1
