-- view: the values of levels by equations.
use Rattle.std.specs.Prelude.{◌≡◌, ℕ, ◌<◌, ◌≤◌, List, length}
use Rattle.std.specs.List.{Contains}
use Rattle.sl_base_graphs.specs.Orders.{IsOrder}
use Rattle.sl_base_graphs.specs.Reaching.{Graph, successors}
use Rattle.sl_base_graphs.specs.Levels.{value}

-- A step takes the values of a node's successors alone, and a number that is no node has the value 0.
pub record TakesSuccessors {C : Type 0} (graph : Graph) (step : (ℕ → ℕ) → C → ℕ) (node : ℕ → C) : Type 0 where
  pub alone : (v : ℕ) (f g : ℕ → ℕ) → ((w : ℕ) → Contains (successors graph v) w → f w ≡ g w)
      → step f (node v) ≡ step g (node v)
  pub outside : (v : ℕ) → length graph ≤ v → (f : ℕ → ℕ) → step f (node v) ≡ 0

-- In an order each value comes from those of the successors by one step.
abbrev pub MeetEquations : Type 0 → Type 0
MeetEquations C = (graph : Graph) (step : (ℕ → ℕ) → C → ℕ) (node : ℕ → C)
    → TakesSuccessors graph step node → (order : List ℕ) → IsOrder graph order
    → (v : ℕ) → v < length graph → value graph step node v ≡ step (value graph step node) (node v)
