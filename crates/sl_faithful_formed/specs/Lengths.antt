-- law: how many parts the sections of an instruction have, and how long its list of operations
-- is. Each part takes a token of its own, so that rule 38 bounds their number.
use Rattle.std.specs.Prelude.{◌≢◌, ℕ, ◌+◌, ◌^◌, ◌<◌, ◌≤◌, ⊤, List, [], ◌∷◌, ◌++◌, length}
use Rattle.sl_faithful_code.specs.Nodes.{node_code}
use Rattle.sl_meaning_sections.specs.Nodes.{Node, Operands, child, given, no_operands, node}
use Rattle.sl_meaning_sections.specs.References.{Reference, Setting, local, memory, number, storage}
use Rattle.sl_section_flat.specs.Sections as s
use Rattle.sl_section_flat.specs.Sections.{Step, Term, Terms}
use Rattle.sl_section_flat.specs.Chains.{chain}

-- ---- parts: expressions, and statements that do something

abbrev mutual
  pub term_parts : Term → ℕ
  term_parts (s.number v x) = 1
  term_parts (s.sized v n x) = 1
  term_parts (s.name a x) = 1
  term_parts (s.paren e x) = term_parts e + 1
  term_parts (s.kept e n x) = term_parts e + 1
  term_parts (s.dropped e n x) = term_parts e + 1
  term_parts (s.bits e low count x) = term_parts e + 1
  term_parts (s.load space n e x) = term_parts e + 1
  term_parts (s.one op e x) = term_parts e + 1
  term_parts (s.two op order a b x) = term_parts a + term_parts b + 1
  term_parts (s.user op es x) = terms_parts es + 1

  pub terms_parts : Terms → ℕ
  terms_parts s.no_terms = 0
  terms_parts (s.then_term e es) = term_parts e + terms_parts es

abbrev pub step_parts : Step → ℕ
step_parts (s.declare x n) = 0
step_parts (s.set a e) = term_parts e + 1
step_parts (s.set_bits a low count e) = term_parts e + 1
step_parts (s.store space n pointer x e) = term_parts pointer + term_parts e + 1
step_parts (s.run_user op es) = terms_parts (chain es) + 1
step_parts (s.build i) = 0
step_parts (s.label l) = 0
step_parts (s.branch to) = 1
step_parts (s.branch_if e to) = term_parts e + 1
step_parts (s.branch_to e) = term_parts e + 1
step_parts (s.call a) = 1
step_parts (s.call_to e) = term_parts e + 1
step_parts (s.return e) = term_parts e + 1
step_parts (s.export what) = 0

abbrev pub steps_parts : List Step → ℕ
steps_parts [] = 0
steps_parts (a ∷ ss) = step_parts a + steps_parts ss

abbrev mutual
  -- those of all nodes of the tree
  pub node_parts : Node → ℕ
  node_parts (node k sec os) = steps_parts sec.steps + operands_parts os

  pub operands_parts : Operands → ℕ
  operands_parts no_operands = 0
  operands_parts (given r os) = operands_parts os
  operands_parts (child n os) = node_parts n + operands_parts os

-- ---- nodes

abbrev mutual
  pub node_count : Node → ℕ
  node_count (node k sec os) = operands_count os + 1

  pub operands_count : Operands → ℕ
  operands_count no_operands = 0
  operands_count (given r os) = operands_count os
  operands_count (child n os) = node_count n + operands_count os

-- ---- each operand is built once at most

abbrev pub step_built : Step → List ℕ
step_built (s.build i) = i ∷ []
step_built _ = []

-- the operands that are built
abbrev pub built : List Step → List ℕ
built [] = []
built (a ∷ ss) = step_built a ++ built ss

-- None of the numbers is this one.
abbrev pub IsNone : ℕ → List ℕ → Type 0
IsNone i [] = ⊤
IsNone i (j ∷ js) = (i ≢ j) × IsNone i js

abbrev pub AreDistinct : List ℕ → Type 0
AreDistinct [] = ⊤
AreDistinct (i ∷ is) = IsNone i is × AreDistinct is

-- ---- what a decode gives to a node

-- It isn't memory.
abbrev pub IsPlain : Reference → Type 0
IsPlain (storage space offset size) = ⊤
IsPlain (local k x size) = ⊤
IsPlain (number v) = ⊤
IsPlain (memory space size pointer width) = ⊥

abbrev mutual
  -- Sections build each operand once at most, and no node is given memory.
  pub IsTree : Node → Type 0
  IsTree (node k sec os) = AreDistinct (built sec.steps) × AreTrees os

  pub AreTrees : Operands → Type 0
  AreTrees no_operands = ⊤
  AreTrees (given r os) = IsPlain r × AreTrees os
  AreTrees (child n os) = IsTree n × AreTrees os

-- ---- the length of the list

-- Of 1,024 nodes at most, with 131,072 parts at most, the list has fewer than 2^31 operations.
abbrev pub ListsAreShort : Type 0
ListsAreShort = (top : ℕ) (g : Setting) (root : Node) → IsTree root → node_count root ≤ 1024
    → node_parts root ≤ 131072 → length (node_code top g root) < 2 ^ 31
