-- meaning: what an instruction does, by its tree of nodes (SLEIGH manual, "The Semantic Section").
use Rattle.std.specs.Prelude.{ℕ, zero, suc, ℤ, pos, nat_lt, if◌then◌else◌, List, [], ◌∷◌}
use Rattle.std.specs.Prelude.{slice_index}
use Rattle.sl_section_equations.specs.Equations.{size_at}
use Rattle.sl_meaning_sections.specs.References.{Reference, Setting, State, memory, number}
use Rattle.sl_meaning_sections.specs.Statements.{Next, Outcome, ends, leaves, section_runs, stops}
use Rattle.sl_meaning_sections.specs.Values.{Fault, Frame, meant, space_of}
use Rattle.sl_section_flat.specs.Sections as s
use Rattle.sl_section_flat.specs.Sections.{Export, Step, Term, variable_of}
use Rattle.sl_word.specs.Memories.{Memory}
use Rattle.sl_word.specs.Numbers.{residue}
use Rattle.sl_word.specs.declared.word.Size.{Size}

-- a constructor's section: its statements, and the size of each of its variables
pub record Section : Type 0 where
  pub steps : List Step
  pub size : ℕ → Size

-- A node of an instruction: its number, its section, and its operands in order. A field or an
-- action name is given as what it stands for, a table as the node of its constructor.
mutual
  pub data Node : Type 0 where
    node : (number : ℕ) → Section → Operands → Node

  pub data Operands : Type 0 where
    no_operands : Operands
    given : Reference → Operands → Operands
    child : Node → Operands → Operands

-- The address at which the machine goes on, with the memory then; or why it stops.
pub data After : Type 0 where
  goes_to : (address : ℕ) → Memory → After
  stopped : Fault → Memory → After

abbrev pub frame_of : (k : ℕ) → Section → List Reference → Frame
frame_of k sec refs = record { node = k; size = sec.size; refs = refs }

-- so many jumps to labels are taken in an instruction; the next one is a fault
unfoldable pub jump_limit : ℕ
jump_limit = 65536

-- ---- what is exported

-- a number as one of n bytes; of 8 bytes and more it is what it was, since it has 64 bits
abbrev pub cut_number : (n : ℕ) → ℤ → ℤ
cut_number n v = if nat_lt n 8 then pos (residue n v) else v

abbrev pub cut_to : (n : ℕ) → Reference → Reference
cut_to n (number v) = number (cut_number n v)
cut_to n r = r

-- a number of no meaning, where the rules want an export
abbrev pub nothing : Reference
nothing = number (pos 0)

module _ (g : Setting) where
  module _ (f : Frame) where
    -- what an exported pointer or constant stands for: a name or an integer
    abbrev pub term_reference : Term → Reference
    term_reference (s.number v x) = number (pos v)
    term_reference (s.name a x) = meant g f a
    term_reference _ = nothing

    abbrev pub export_reference : Export → Reference
    export_reference (s.exports a x) = meant g f a
    export_reference (s.exports_constant n t x) = cut_to n (term_reference t)
    export_reference (s.exports_memory space n t x) =
        memory (space_of g space) (size_at n) (term_reference t) (f.size (variable_of t))

    abbrev pub exported : List Step → Reference
    exported [] = nothing
    exported (s.export what ∷ ss) = export_reference what
    exported (_ ∷ ss) = exported ss

  abbrev mutual
    -- what an operand stands for whose node this is
    pub reference_of : Node → Reference
    reference_of (node k sec os) =
        exported (frame_of k sec (references_of os)) sec.steps

    pub references_of : Operands → List Reference
    references_of no_operands = []
    references_of (given r os) = r ∷ references_of os
    references_of (child n os) = reference_of n ∷ references_of os

  -- ---- what nodes do, where at most `most` jumps are left

  abbrev mutual
    pub node_runs : (most : ℕ) → Node → Next
    node_runs most (node k sec os) = section_runs g (frame_of k sec (references_of os))
        most (child_runs most os) sec.steps sec.steps

    -- the section of the operand of a number, where that is a table
    pub child_runs : (most : ℕ) → Operands → (i : ℕ) → Next
    child_runs most no_operands i st = ends st
    child_runs most (given r os) zero st = ends st
    child_runs most (child n os) zero st = node_runs most n st
    child_runs most (given r os) (suc i) st = child_runs most os i st
    child_runs most (child n os) (suc i) st = child_runs most os i st

  -- ---- instructions

  -- the locals are 0 at first
  abbrev pub opening : Memory → (left : ℕ) → State
  opening m left = record { memory = m; locals = λ node x. 0; left = left }

  -- how an instruction ends, where so many jumps are left
  abbrev pub outcome_with : (left : ℕ) → Node → Memory → Outcome
  outcome_with left root m = node_runs left root (opening m left)

  unfoldable pub outcome : Node → Memory → Outcome
  outcome root m = outcome_with jump_limit root m

  -- behind its last statement an instruction leaves `inst_next`
  abbrev pub after_outcome : Outcome → After
  after_outcome (ends st) =
      goes_to (residue (slice_index g.sizes g.default) g.next) st.memory
  after_outcome (leaves target m) = goes_to target m
  after_outcome (stops fault m) = stopped fault m
