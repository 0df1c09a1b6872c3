-- meaning: what statements do (SLEIGH manual, "Statements").
use Rattle.std.specs.Prelude.{ℕ, zero, suc, ◌%◌, ◌^◌, ◌==◌, ◌&&◌, Bool, false}
use Rattle.std.specs.Prelude.{if◌then◌else◌, List, [], ◌∷◌, Result, Ok, Err, slice_index}
use Rattle.std.specs.Str.{bytes_eq}
use Rattle.sl_meaning_sections.specs.References.{Locals, Reference, Setting, State, load, memory, put}
use Rattle.sl_meaning_sections.specs.References.{put_bytes, read}
use Rattle.sl_meaning_sections.specs.Values.{Fault, Frame, calls_user_op, fault_in, jumps_too_often, meant}
use Rattle.sl_meaning_sections.specs.Values.{size_of, space_of, symbol_size, symbol_value, value, with_bits}
use Rattle.sl_section_flat.specs.Sections as s
use Rattle.sl_section_flat.specs.Sections.{Direct, Label, Step, Symbol, Term}
use Rattle.sl_section_flat.specs.Chains.{chain}
use Rattle.sl_section_equations.specs.Equations.{size_at}
use Rattle.sl_word.specs.Memories.{Memory}

-- How statements end: behind the last one, by a jump out of the instruction, or by a fault.
pub data Outcome : Type 0 where
  ends : State → Outcome
  leaves : (target : ℕ) → Memory → Outcome
  stops : Fault → Memory → Outcome

-- what is done from a state
abbrev pub Next : Type 0
Next = State → Outcome

abbrev pub then_do : Outcome → Next → Outcome
then_do (ends st) next = next st
then_do (leaves target m) next = leaves target m
then_do (stops fault m) next = stops fault m

-- what is done with a value, or its fault
abbrev pub with_value : Result ℕ Fault → Memory → (ℕ → Outcome) → Outcome
with_value (Ok v) m next = next v
with_value (Err fault) m next = stops fault m

-- ---- labels

abbrev pub same_label : Label → Label → Bool
same_label a b = (a.call == b.call) && bytes_eq a.name b.name

abbrev pub is_label : Step → Label → Bool
is_label (s.label here) l = same_label here l
is_label _ l = false

-- the statements behind a label
abbrev pub behind : Label → List Step → List Step
behind l [] = []
behind l (a ∷ ss) = if is_label a l then ss else behind l ss

-- a jump to a label is counted, where one is left
abbrev pub counted : (left : ℕ) → Memory → Locals → Next → Outcome
counted zero m l next = stops jumps_too_often m
counted (suc left) m l next = next (record { memory = m; locals = l; left = left })

-- ---- statements

module _ (g : Setting) where
  -- an address of the default space
  abbrev pub leaves_to : (target : ℕ) → Memory → Outcome
  leaves_to target m = leaves (target % 256 ^ slice_index g.sizes g.default) m

  -- where a direct jump goes: to the pointer of memory, or to a number
  abbrev pub pointed : Memory → Locals → Reference → ℕ
  pointed m l (memory space size pointer width) = read g m l pointer width.bytes
  pointed m l r = read g m l r (slice_index g.sizes g.default)

  module _ (f : Frame) where
    abbrev pub value_in : State → Term → Result ℕ Fault
    value_in st t = value g f st.memory st.locals t

    -- a value of n bytes is assigned to a name; bits of a register leave its others as they are
    abbrev pub assigned : Symbol → (n v : ℕ) → State → State
    assigned (s.bit_range space offset k low count) n v st =
        put_bytes g space offset (size_at k).bytes
        (with_bits low count (load g st.memory space offset (size_at k).bytes) v) st
    assigned a n v st = put g (meant g f a) n v st

    -- what stands there is read, some of its bits are replaced, and it is assigned
    abbrev pub bits_assigned : Symbol → (low count n v : ℕ) → State → State
    bits_assigned a low count n v st =
        assigned a n (with_bits low count (symbol_value g f st.memory st.locals a n) v) st

    module _ (jump : Label → Next) where
      abbrev pub goes : Direct → Next
      goes (s.to_label l) st = jump l st
      goes (s.to_place a) st = leaves_to (pointed st.memory st.locals (meant g f a)) st.memory

      -- statements, by what a jump to a label does, and what the section of an operand does
      module _ (child : (i : ℕ) → Next) where
        abbrev pub steps_run : List Step → Next
        steps_run [] st = ends st
        steps_run (s.declare x n ∷ ss) st = steps_run ss st
        steps_run (s.set a t ∷ ss) st = with_value (value_in st t) st.memory
            (λ v. steps_run ss (assigned a (size_of g f t) v st))
        steps_run (s.set_bits a low count t ∷ ss) st = with_value (value_in st t) st.memory
            (λ v. steps_run ss (bits_assigned a low count (symbol_size g f a).bytes v st))
        steps_run (s.store space n pointer x t ∷ ss) st = with_value (value_in st t) st.memory
            (λ v. with_value (value_in st pointer) st.memory
            (λ p. steps_run ss (put_bytes g (space_of g space) p (size_of g f t) v st)))
        steps_run (s.run_user op ts ∷ ss) st =
            stops (fault_in g f st.memory st.locals (calls_user_op op) (chain ts)) st.memory
        steps_run (s.build i ∷ ss) st = then_do (child i st) (steps_run ss)
        steps_run (s.label l ∷ ss) st = steps_run ss st
        steps_run (s.branch to ∷ ss) st = goes to st
        steps_run (s.branch_if t to ∷ ss) st = with_value (value_in st t) st.memory
            (λ v. if v == 0 then steps_run ss st else goes to st)
        steps_run (s.branch_to t ∷ ss) st =
            with_value (value_in st t) st.memory (λ v. leaves_to v st.memory)
        steps_run (s.call a ∷ ss) st = goes (s.to_place a) st
        steps_run (s.call_to t ∷ ss) st =
            with_value (value_in st t) st.memory (λ v. leaves_to v st.memory)
        steps_run (s.return t ∷ ss) st =
            with_value (value_in st t) st.memory (λ v. leaves_to v st.memory)
        steps_run (s.export what ∷ ss) st = steps_run ss st

    -- A section from some of its statements on. At most `most` jumps can be left to it; each is
    -- counted, and goes on at its label.
    unfoldable pub section_runs : (most : ℕ) (child : ℕ → Next) (all ss : List Step) → Next
    section_runs zero child all ss st =
        steps_run (λ l st. stops jumps_too_often st.memory) child ss st
    section_runs (suc most) child all ss st = steps_run (λ l st. counted st.left st.memory st.locals
        (section_runs most child all (behind l all))) child ss st
