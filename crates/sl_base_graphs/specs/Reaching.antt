-- meaning: graphs, and nodes that reach themselves.
use Rattle.std.specs.Prelude.{◌≡◌, ℕ, zero, suc, ◌==◌, Bool, true, ◌||◌, ◌&&◌, List, [], length, get_or}
use Rattle.std.specs.List.{Contains, list_any}

-- the successors of each node, the nodes being numbered from 0 on
abbrev pub Graph : Type 0
Graph = List (List ℕ)

-- the successors of a node; a number that is no node has none
abbrev pub successors : Graph → ℕ → List ℕ
successors graph v = get_or graph v []

-- A node reaches another: that is its successor, or a successor reaches it.
pub data Reaches (graph : Graph) : ℕ → ℕ → Type 0 where
  direct : {v w : ℕ} → Contains (successors graph v) w → Reaches graph v w
  further : {v w x : ℕ} → Contains (successors graph v) w → Reaches graph w x → Reaches graph v x

-- whether a node reaches another over nodes with numbers below k alone (Warshall's closure)
unfoldable pub reaches_over : Graph → ℕ → ℕ → ℕ → Bool
reaches_over graph zero v w = list_any (λ x. x == w) (successors graph v)
reaches_over graph (suc k) v w =
    reaches_over graph k v w || (reaches_over graph k v k && reaches_over graph k k w)

-- whether a node reaches itself
abbrev pub reaches_itself : Graph → ℕ → Bool
reaches_itself graph v = reaches_over graph (length graph) v v

-- A node reaches itself so exactly where it does by successors of any number.
pub record TellsReaching : Type 0 where
  pub finds : (graph : Graph) (v : ℕ) → Reaches graph v v → reaches_itself graph v ≡ true
  pub is_right : (graph : Graph) (v : ℕ) → reaches_itself graph v ≡ true → Reaches graph v v
