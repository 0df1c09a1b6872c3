-- step: trees of variables whose sizes differ by known numbers, and the assignments that they leave.
use Rattle.std.specs.Prelude.{◌≡◌, ◌≢◌, ◌↔◌, ℕ, ◌+◌, ◌<◌, ◌≤◌, Bool, MatchBool, List, length, slice_index_or}
use Rattle.sl_sizes.specs.declared.Equation.{Equation}
use Rattle.sl_sizes.specs.declared.SizeError.{SizeError}
use Rattle.sl_sizes.specs.declared.SizeError.TheVariants.{Clash, Unfixed, NoMemory}
use Rattle.sl_sizes.specs.declared.nodes.Node.{Node}
use Rattle.sl_sizes.specs.Solutions.{Solves}

-- The node of each variable, and of a number past the last one a node of zeros.
abbrev pub node_of : List Node → ℕ → Node
node_of nodes v = slice_index_or nodes v (record { parent = 0; shift = 0; least = 0; greatest = 0; rank = 0 })

-- The node of a variable of which nothing is known.
abbrev pub single : ℕ → Node
single v = record { parent = v; shift = 16; least = 1; greatest = 16; rank = 0 }

-- The node lets its variable have the size that the assignment gives it.
pub record AllowsAt (size : ℕ → ℕ) (v : ℕ) (node : Node) : Type 0 where
  pub link : size v + 16 ≡ size node.parent + node.shift
  pub least : node.least ≤ size v
  pub greatest : size v ≤ node.greatest

-- The assignment is one of those that the nodes of the first n variables leave.
abbrev pub Allows : ℕ → (ℕ → Node) → (ℕ → ℕ) → Type 0
Allows n node size = (v : ℕ) → v < n → AllowsAt size v (node v)

abbrev pub IsRoot : (ℕ → Node) → ℕ → Type 0
IsRoot node v = (node v).parent ≡ v

-- A node's numbers are in their ranges.
pub record IsInRange (n v : ℕ) (node : Node) : Type 0 where
  pub parent : node.parent < n
  pub shift : node.shift ≤ 31
  pub least : 1 ≤ node.least
  pub greatest : node.greatest ≤ 16
  pub root_shift : node.parent ≡ v → node.shift ≡ 16
  pub root_sizes : node.parent ≡ v → node.least ≤ node.greatest

-- The sizes lie within the bounds of the roots.
abbrev pub IsWithin : ℕ → (ℕ → Node) → (ℕ → ℕ) → Type 0
IsWithin n node size = (v : ℕ) → v < n → IsRoot node v → ((node v).least ≤ size v) × (size v ≤ (node v).greatest)

-- The nodes of the first n variables are trees, and leave an assignment for each choice of the roots' sizes within their bounds.
pub record AreTrees (n : ℕ) (node : ℕ → Node) : Type 0 where
  pub in_range : (v : ℕ) → v < n → IsInRange n v (node v)
  pub ranks : (v : ℕ) → v < n → (node v).parent ≢ v → (node v).rank < (node (node v).parent).rank
  pub free : (size : ℕ → ℕ) → IsWithin n node size
      → (all : ℕ → ℕ) × Allows n node all × ((v : ℕ) → v < n → IsRoot node v → all v ≡ size v)

-- No rank is above a number.
abbrev pub RanksUpTo : ℕ → ℕ → (ℕ → Node) → Type 0
RanksUpTo limit n node = (v : ℕ) → v < n → (node v).rank ≤ limit

-- The new nodes leave those of the old nodes' assignments that have a property.
pub record Restricts (n : ℕ) (old new : ℕ → Node) (Property : (ℕ → ℕ) → Type 0) : Type 0 where
  pub trees : AreTrees n new
  pub allows : (size : ℕ → ℕ) → Allows n new size ↔ (Allows n old size × Property size)
  pub ranks : (limit : ℕ) → RanksUpTo limit n old → RanksUpTo (limit + 1) n new

-- The nodes leave no assignment that has a property.
abbrev pub Refutes : ℕ → (ℕ → Node) → ((ℕ → ℕ) → Type 0) → Type 0
Refutes n node Property = (size : ℕ → ℕ) → Allows n node size → Property size → ⊥

-- Where the answer is true, the new nodes leave those of the old nodes' assignments that have the property. Where it is false, none has it.
abbrev pub IsStep : List Node → List Node → Bool → ((ℕ → ℕ) → Type 0) → Type 0
IsStep old new answer Property =
    MatchBool answer (Restricts (length old) (node_of old) (node_of new) Property) (Refutes (length old) (node_of old) Property)

-- The node of a variable is reached from this root, with this number between their sizes.
pub record IsPlace (n : ℕ) (node : ℕ → Node) (v root shift : ℕ) : Type 0 where
  pub in_range : root < n
  pub is_root : IsRoot node root
  pub apart : (size : ℕ → ℕ) → Allows n node size → size v + 16 ≡ size root + shift
  pub bound : shift ≤ 31

-- All assignments that the nodes leave give the variable this size.
abbrev pub IsFixed : ℕ → (ℕ → Node) → ℕ → ℕ → Type 0
IsFixed n node v bytes = (size : ℕ → ℕ) → Allows n node size → size v ≡ bytes

-- Two assignments that the nodes leave give the variable different sizes.
pub record IsOpen (n : ℕ) (node : ℕ → Node) (v : ℕ) : Type 0 where
  pub one : ℕ → ℕ
  pub other : ℕ → ℕ
  pub allows_one : Allows n node one
  pub allows_other : Allows n node other
  pub differ : one v ≢ other v

-- The nodes are trees, and leave the assignments that solve the equations.
pub record StandFor (n : ℕ) (node : ℕ → Node) (equations : List Equation) : Type 0 where
  pub trees : AreTrees n node
  pub solves : (size : ℕ → ℕ) → Allows n node size ↔ Solves n equations size

-- The error names the first variable that has two sizes in the assignments that the nodes leave, if it names a variable.
abbrev pub IsUnfixedReason : ℕ → (ℕ → Node) → SizeError → Type 0
IsUnfixedReason n node (Clash index) = ⊥
IsUnfixedReason n node (Unfixed variable) =
    (variable < n) × IsOpen n node variable × ((v : ℕ) → v < variable → (bytes : ℕ) × IsFixed n node v bytes)
IsUnfixedReason n node NoMemory = Unit {0}
