-- A run leaves the bytes behind the end of each space as they were.
use Rattle.std.proofs.Common.{◌≡◌, ℕ, zero, suc, ◌^◌, ◌≤◌, Bool, true, false, List, [], ◌∷◌, Option}
use Rattle.std.proofs.Common.{Result, Ok, Err, refl, sym, ap, subst, ◌∙◌, arith}
use Rattle.std.specs.Prelude.{◌==◌, ◌&&◌, if◌then◌else◌, map, nat_lt, slice_index}
use Rattle.std.proofs.lemmas.Bool.{eqb-true, ltb-true}
use Rattle.sl_decode_meaning.specs.Choices.{Choice}
use Rattle.sl_decode_meaning.specs.declared.faults.Fault as decoding
use Rattle.sl_decode_meaning.specs.Decoding.{Decoded}
use Rattle.sl_meaning_instruction.specs.Instructions.{Specification, instruction, is_unimplemented, setting_of}
use Rattle.sl_meaning_sections.specs.Nodes.{After, Node, Operands, after_outcome, child, child_runs, frame_of, given, goes_to}
use Rattle.sl_meaning_sections.specs.Nodes.{jump_limit, no_operands, node, node_runs, outcome, references_of, stopped}
use Rattle.sl_meaning_sections.specs.References.{Locals, Reference, Setting, State, local, memory, number, put, put_bytes}
use Rattle.sl_meaning_sections.specs.References.{storage}
use Rattle.sl_meaning_sections.specs.Statements.{Next, Outcome, assigned, behind, bits_assigned, counted, ends, goes, leaves}
use Rattle.sl_meaning_sections.specs.Statements.{section_runs, steps_run, stops, then_do, value_in, with_value}
use Rattle.sl_meaning_sections.specs.Values.{Fault, Frame, meant, size_of, space_of, symbol_size}
use Rattle.sl_section_flat.specs.Sections as s
use Rattle.sl_section_flat.specs.Sections.{Direct, Label, Step, Symbol}
use Rattle.sl_step_meaning.specs.Steps as steps
use Rattle.sl_step_meaning.specs.Steps.{IsRun, IsStep, Machine, StepFault, Stepped, after_of, committed, decoded_at}
use Rattle.sl_step_meaning.specs.Steps.{executed, off, on, run_decoded, window_of}
use Rattle.sl_word.specs.Layout.{byte_of}
use Rattle.sl_word.specs.Memories.{Memory, distance, stored, with_bytes}

-- ---- what each store keeps, an instruction keeps

module _ (P : Memory → Type 0) where
  abbrev Has : Outcome → Type 0
  Has (ends st) = P st.memory
  Has (leaves target m) = P m
  Has (stops fault m) = P m

  abbrev AfterHas : After → Type 0
  AfterHas (goes_to address m) = P m
  AfterHas (stopped fault m) = P m

module _ (g : Setting) (P : Memory → Type 0)
    (stores : (m : Memory) (space offset n v : ℕ) → P m → P (stored g.endian g.sizes m space offset n v)) where
  valued : (r : Result ℕ Fault) (m : Memory) (next : ℕ → Outcome) → P m → ((v : ℕ) → Has P (next v)) → Has P
      (with_value r m next)
  valued (Ok v) m next p h = h v
  valued (Err fault) m next p h = p

  followed : (o : Outcome) (next : Next) → Has P o → ((st : State) → P st.memory → Has P (next st)) → Has P
      (then_do o next)
  followed (ends st) next p h = h st p
  followed (leaves target m) next p h = p
  followed (stops fault m) next p h = p

  either : (b : Bool) (x y : Outcome) → Has P x → Has P y → Has P (if b then x else y)
  either true x y hx hy = hx
  either false x y hx hy = hy

  put_has : (r : Reference) (n v : ℕ) (st : State) → P st.memory → P (put g r n v st).memory
  put_has (storage space offset size) n v st p = stores st.memory space offset n v p
  put_has (local k x size) n v st p = p
  put_has (number z) n v st p = p
  put_has (memory space size pointer width) n v st p = stores st.memory space _ n v p

  assigned_has : (f : Frame) (a : Symbol) (n v : ℕ) (st : State) → P st.memory → P (assigned g f a n v st).memory
  assigned_has f (s.bit_range space offset k low count) n v st p = stores st.memory space offset _ _ p
  assigned_has f (s.register space offset k) n v st p = put_has (meant g f (s.register space offset k)) n v st p
  assigned_has f (s.local x) n v st p = put_has (meant g f (s.local x)) n v st p
  assigned_has f (s.table i) n v st p = put_has (meant g f (s.table i)) n v st p
  assigned_has f (s.attached i k) n v st p = put_has (meant g f (s.attached i k)) n v st p
  assigned_has f (s.value i) n v st p = put_has (meant g f (s.value i)) n v st p
  assigned_has f s.start n v st p = put_has (meant g f s.start) n v st p
  assigned_has f s.next n v st p = put_has (meant g f s.next) n v st p
  assigned_has f (s.integer z) n v st p = put_has (meant g f (s.integer z)) n v st p

  module _ (f : Frame) (jump : Label → Next) (kid : ℕ → Next)
      (jumps : (l : Label) (st : State) → P st.memory → Has P (jump l st))
      (kids : (i : ℕ) (st : State) → P st.memory → Has P (kid i st)) where
    direct_has : (to : Direct) (st : State) → P st.memory → Has P (goes g f jump to st)
    direct_has (s.to_label l) st p = jumps l st p
    direct_has (s.to_place a) st p = p

    steps_have : (ss : List Step) (st : State) → P st.memory → Has P (steps_run g f jump kid ss st)
    steps_have [] st p = p
    steps_have (s.declare x n ∷ ss) st p = steps_have ss st p
    steps_have (s.set a t ∷ ss) st p =
        valued (value_in g f st t) st.memory _ p
        (λ v. steps_have ss (assigned g f a (size_of g f t) v st) (assigned_has f a (size_of g f t) v st p))
    steps_have (s.set_bits a low count t ∷ ss) st p =
        valued (value_in g f st t) st.memory _ p
        (λ v. steps_have ss (bits_assigned g f a low count (symbol_size g f a).bytes v st)
        (assigned_has f a (symbol_size g f a).bytes _ st p))
    steps_have (s.store space n pointer x t ∷ ss) st p =
        valued (value_in g f st t) st.memory _ p (λ v. valued (value_in g f st pointer) st.memory _ p
        (λ q. steps_have ss (put_bytes g (space_of g space) q (size_of g f t) v st)
        (stores st.memory (space_of g space) q (size_of g f t) v p)))
    steps_have (s.run_user op ts ∷ ss) st p = p
    steps_have (s.build i ∷ ss) st p = followed (kid i st) _ (kids i st p) (λ st' p'. steps_have ss st' p')
    steps_have (s.label l ∷ ss) st p = steps_have ss st p
    steps_have (s.branch to ∷ ss) st p = direct_has to st p
    steps_have (s.branch_if t to ∷ ss) st p =
        valued (value_in g f st t) st.memory _ p (λ v. either (v == 0) _ _ (steps_have ss st p) (direct_has to st p))
    steps_have (s.branch_to t ∷ ss) st p = valued (value_in g f st t) st.memory _ p (λ v. p)
    steps_have (s.call a ∷ ss) st p = p
    steps_have (s.call_to t ∷ ss) st p = valued (value_in g f st t) st.memory _ p (λ v. p)
    steps_have (s.return t ∷ ss) st p = valued (value_in g f st t) st.memory _ p (λ v. p)
    steps_have (s.export what ∷ ss) st p = steps_have ss st p

  counted_has : (left : ℕ) (m : Memory) (l : Locals) (next : Next) → P m →
      ((st : State) → P st.memory → Has P (next st)) → Has P (counted left m l next)
  counted_has zero m l next p h = p
  counted_has (suc left) m l next p h = h _ p

  section_has : (f : Frame) (kid : ℕ → Next) (kids : (i : ℕ) (st : State) → P st.memory → Has P (kid i st)) (most : ℕ)
      (all ss : List Step) (st : State) → P st.memory
      → Has P (section_runs g f most kid all ss st)
  unfolding section_runs
  section_has f kid kids zero all ss st p = steps_have f _ kid (λ l st q. q) kids ss st p
  section_has f kid kids (suc most) all ss st p =
      steps_have f _ kid
      (λ l st q. counted_has st.left st.memory st.locals _ q
      (λ st' q'. section_has f kid kids most all (behind l all) st' q')) kids ss st p

  mutual
    node_has : (n : Node) (most : ℕ) (st : State) → P st.memory → Has P (node_runs g most n st)
    node_has (node k sec os) most st p =
        section_has (frame_of k sec (references_of g os)) (child_runs g most os)
        (λ i st q. child_has os most i st q) most sec.steps sec.steps st p

    child_has : (os : Operands) (most i : ℕ) (st : State) → P st.memory → Has P (child_runs g most os i st)
    child_has no_operands most i st p = p
    child_has (given r os) most zero st p = p
    child_has (given r os) most (suc i) st p = child_has os most i st p
    child_has (child n os) most zero st p = node_has n most st p
    child_has (child n os) most (suc i) st p = child_has os most i st p

  after_by : (o : Outcome) → Has P o → AfterHas P (after_outcome g o)
  after_by (ends st) p = p
  after_by (leaves target m) p = p
  after_by (stops fault m) p = p

  after_has : (root : Node) (m : Memory) → P m → AfterHas P (after_outcome g (outcome g root m))
  unfolding outcome
  after_has root m p = after_by (outcome g root m) (node_has root jump_limit _ p)

-- ---- bytes behind the end of a space

unstored : (offset n : ℕ) (put bytes : ℕ → ℕ) (most k : ℕ) → most ≤ k → with_bytes most offset n put bytes k ≡ bytes k
unstored offset n put bytes most k past = by (nat_lt k most) (nat_lt (distance most offset k) n) refl
  where
    by : (a b : Bool) → nat_lt k most ≡ a → (if a && b then put (distance most offset k) else bytes k) ≡ bytes k
    by true b e = absurd (let less = ltb-true k most e in omega (arith, less, past))
    by false b e = refl

-- a store changes no byte behind the end of a space
store_keeps : (g : Setting) (which k : ℕ) → 256 ^ slice_index g.sizes which ≤ k → (m : Memory) (space offset n v : ℕ)
    → stored g.endian g.sizes m space offset n v which k ≡ m which k
store_keeps g which k past m space offset n v = by (which == space) refl
  where
    by : (b : Bool) → (which == space) ≡ b
        → (if b then with_bytes (256 ^ slice_index g.sizes space) offset n (byte_of g.endian n v)
        (m space) else m which) k ≡ m which k
    by true e =
        let same : which ≡ space = eqb-true which space e in
        let behind : 256 ^ slice_index g.sizes space ≤ k = subst
        (λ (z : ℕ). 256 ^ slice_index g.sizes z ≤ k) same past in
        unstored offset n (byte_of g.endian n v) (m space) (256 ^ slice_index g.sizes space) k behind ∙ ap
        (λ (z : ℕ). m z k) (sym same)
    by false e = refl

module _ (sp : Specification) (choose : Choice) (start which k : ℕ)
    (past : 256 ^ slice_index (map (λ z. z.size) sp.tables.spaces) which ≤ k) (byte : ℕ) where
  -- the byte is this one
  abbrev Holds : Memory → Type 0
  Holds m = m which k ≡ byte

  abbrev SteppedHolds : Stepped → Type 0
  SteppedHolds (steps.goes m) = Holds m.memory
  SteppedHolds (steps.stops fault m) = Holds m.memory

  past_in : (address after : ℕ) → 256 ^ slice_index (setting_of sp.tables address after).sizes which ≤ k
  unfolding setting_of
  past_in address after = past

  stores_hold : (g : Setting) → 256 ^ slice_index g.sizes which ≤ k → (m : Memory) (space offset n v : ℕ) → Holds m
      → Holds (stored g.endian g.sizes m space offset n v)
  stores_hold g behind m space offset n v p = store_keeps g which k behind m space offset n v ∙ p

  after_holds : (m : Machine) (d : Decoded) → Holds m.memory → AfterHas Holds (after_of sp choose start m d)
  after_holds m d p =
      let g = setting_of sp.tables m.counter d.after in
      after_has g Holds (stores_hold g (past_in m.counter d.after))
      (instruction sp (window_of sp choose start m) d.tree) m.memory p

  executed_holds : (m : Machine) (a : After) → AfterHas Holds a → SteppedHolds (executed m a)
  executed_holds m (goes_to address n) p = p
  executed_holds m (stopped fault n) p = p

  either_holds : (b : Bool) (x y : Stepped) → SteppedHolds x → SteppedHolds y → SteppedHolds (if b then x else y)
  either_holds true x y p q = p
  either_holds false x y p q = q

  decoded_holds : (m : Machine) (r : Result Decoded decoding.Fault) → Holds m.memory → SteppedHolds
      (run_decoded sp choose start m r)
  decoded_holds m (Err fault) p = p
  decoded_holds m (Ok d) p =
      either_holds (is_unimplemented sp.constructors d.tree) _ _ p
      (executed_holds (committed sp choose start m d) (after_of sp choose start m d) (after_holds m d p))

  step_holds : (m : Machine) (x : Stepped) → IsStep sp choose start m x → Holds m.memory → SteppedHolds x
  step_holds m x (off e some) p = p
  step_holds m x (on {context = c} e low at) p = decoded_holds m (decoded_at sp choose start m c) p

  run_holds : (most : ℕ) (m : Machine) (n : ℕ) (last : Machine) (fault : Option StepFault)
      → IsRun sp choose start most m n last fault → Holds m.memory → Holds last.memory
  run_holds zero m n last fault steps.ended p = p
  run_holds (suc most) m n last fault (steps.ran {n = i} {next = next} one rest) p =
      run_holds most next i last fault rest (step_holds m (steps.goes next) one p)
  run_holds (suc most) m n last fault (steps.faulted {fault = f} one) p = step_holds m (steps.stops f last) one p

-- A run leaves each byte behind the end of its space as it was.
pub run_keeps : (sp : Specification) (choose : Choice) (start most : ℕ) (m : Machine) (n : ℕ) (last : Machine)
    (fault : Option StepFault) (which k : ℕ)
    → 256 ^ slice_index (map (λ z. z.size) sp.tables.spaces) which ≤ k → IsRun sp choose start most m n last fault
    → last.memory which k ≡ m.memory which k
run_keeps sp choose start most m n last fault which k past runs =
    run_holds sp choose start which k past (m.memory which k) most m n last fault runs refl
