-- law: laws of what instructions do.
use Rattle.std.specs.Prelude.{◌≡◌, ◌≢◌, ℕ, ⊤, List, [], ◌∷◌, slice_index}
use Rattle.sl_meaning_sections.specs.Nodes.{Node, Operands, after_outcome, child, given, goes_to}
use Rattle.sl_meaning_sections.specs.Nodes.{no_operands, node, node_runs, outcome}
use Rattle.sl_meaning_sections.specs.Nodes.{outcome_with}
use Rattle.sl_meaning_sections.specs.References.{Reference, Setting, State, local, memory, number, storage}
use Rattle.sl_meaning_sections.specs.Statements.{ends}
use Rattle.sl_section_flat.specs.Sections as s
use Rattle.sl_section_flat.specs.Sections.{Direct, Step}
use Rattle.sl_word.specs.Memories.{Memory}
use Rattle.sl_word.specs.Numbers.{residue}

-- ---- each statement of an instruction

abbrev pub All : (Step → Type 0) → List Step → Type 0
All P [] = ⊤
All P (a ∷ ss) = P a × All P ss

module _ (P : Step → Type 0) where
  abbrev mutual
    pub EachStep : Node → Type 0
    EachStep (node k sec os) = All P sec.steps × EachStepBelow os

    pub EachStepBelow : Operands → Type 0
    EachStepBelow no_operands = ⊤
    EachStepBelow (given r os) = EachStepBelow os
    EachStepBelow (child n os) = EachStep n × EachStepBelow os

-- ---- jumps

abbrev pub IsNoLabel : Direct → Type 0
IsNoLabel (s.to_label l) = ⊥
IsNoLabel (s.to_place a) = ⊤

-- The statement jumps to no label.
abbrev pub IsNoJump : Step → Type 0
IsNoJump (s.branch to) = IsNoLabel to
IsNoJump (s.branch_if t to) = IsNoLabel to
IsNoJump _ = ⊤

-- An instruction that has no jump to a label takes none.
abbrev pub JumpsAreToLabels : Type 0
JumpsAreToLabels = (g : Setting) (left : ℕ) (root : Node) (m : Memory) (st : State)
    → EachStep IsNoJump root → outcome_with g left root m ≡ ends st → st.left ≡ left

abbrev pub IsLabel : Direct → Type 0
IsLabel (s.to_label l) = ⊤
IsLabel (s.to_place a) = ⊥

-- The statement doesn't leave the instruction.
abbrev pub IsNoExit : Step → Type 0
IsNoExit (s.branch to) = IsLabel to
IsNoExit (s.branch_if t to) = IsLabel to
IsNoExit (s.branch_to t) = ⊥
IsNoExit (s.call a) = ⊥
IsNoExit (s.call_to t) = ⊥
IsNoExit (s.return t) = ⊥
IsNoExit _ = ⊤

-- An instruction without jumps out of it, calls and returns goes to `inst_next`, if it doesn't
-- stop.
abbrev pub EndsAtNext : Type 0
EndsAtNext = (g : Setting) (root : Node) (m m' : Memory) (address : ℕ) → EachStep IsNoExit root
    → after_outcome g (outcome g root m) ≡ goes_to address m'
    → address ≡ residue (slice_index g.sizes g.default) g.next

-- ---- locals

-- The reference is no local of the node with this number.
abbrev pub IsElsewhere : ℕ → Reference → Type 0
IsElsewhere k (storage space offset size) = ⊤
IsElsewhere k (local j x size) = k ≢ j
IsElsewhere k (number v) = ⊤
IsElsewhere k (memory space size pointer width) = ⊤

-- No node of the tree has the number, and what is given to them is no local of it.
abbrev mutual
  pub IsOutside : ℕ → Node → Type 0
  IsOutside k (node j sec os) = (k ≢ j) × IsOutsideAll k os

  pub IsOutsideAll : ℕ → Operands → Type 0
  IsOutsideAll k no_operands = ⊤
  IsOutsideAll k (given r os) = IsElsewhere k r × IsOutsideAll k os
  IsOutsideAll k (child n os) = IsOutside k n × IsOutsideAll k os

-- A node's locals are its own: other nodes leave them as they are, but for those above it, to which
-- it exports some.
abbrev pub LocalsAreOwn : Type 0
LocalsAreOwn = (g : Setting) (most : ℕ) (n : Node) (st st' : State) (k : ℕ) → IsOutside k n
    → node_runs g most n st ≡ ends st'
    → (x : ℕ) → st'.locals k x ≡ st.locals k x
