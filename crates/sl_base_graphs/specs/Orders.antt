-- law: orders in which each node stands behind its successors.
use Rattle.std.specs.Prelude.{◌≡◌, ℕ, ◌<◌, ◌≤◌, Bool, false, List, length, get_or}
use Rattle.std.specs.List.{Contains}
use Rattle.sl_base_graphs.specs.Reaching.{Graph, reaches_itself, successors}

-- The number stands in the list before a place.
abbrev pub StandsBefore : List ℕ → ℕ → ℕ → Type 0
StandsBefore order i v = (j : ℕ) × (j < i) × (get_or order j 0 ≡ v)

-- The nodes in an order in which each stands behind its successors.
pub record IsOrder (graph : Graph) (order : List ℕ) : Type 0 where
  pub behind : (i : ℕ) → i < length order → (w : ℕ) → Contains (successors graph (get_or order i 0)) w
      → w < length graph → StandsBefore order i w
  pub nodes : (i : ℕ) → i < length order → get_or order i 0 < length graph
  pub all : (v : ℕ) → v < length graph → StandsBefore order (length order) v
  pub long : length order ≤ length graph

-- No node reaches itself.
abbrev pub NoneReaches : Graph → Type 0
NoneReaches graph = (v : ℕ) → v < length graph → reaches_itself graph v ≡ false

-- Of each node it is told whether it reaches itself.
pub record AreTold (graph : Graph) (told : List Bool) : Type 0 where
  pub long : length told ≡ length graph
  pub right : (v : ℕ) → v < length graph → get_or told v false ≡ reaches_itself graph v
