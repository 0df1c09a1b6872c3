-- step: what holds all through the search of strong components.
use Rattle.std.specs.Prelude.{◌≡◌, ℕ, ◌<◌, ◌≤◌, ◌⊎◌, List, length, get_or, count_by, take, ◌≢◌}
use Rattle.std.specs.List.{Contains}
use Rattle.sl_base_graphs.specs.Reaching.{Graph, Reaches, successors}
use Rattle.sl_base_graphs.specs.States.{State, entered, is_closed, last_of, open_at, place_of, work}
use Rattle.sl_base_graphs.specs.declared.search.Place.{Place}
use Rattle.sl_base_graphs.specs.declared.search.Place.TheVariants.{Unseen, Open, Closed}

-- the same node, or one that it reaches
abbrev pub Gets : Graph → ℕ → ℕ → Type 0
Gets graph v w = (v ≡ w) ⊎ Reaches graph v w

abbrev pub Has : List ℕ → ℕ → Type 0
Has xs x = (k : ℕ) × (k < length xs) × (get_or xs k 0 ≡ x)

abbrev pub Rises : List ℕ → Type 0
Rises xs = (p q : ℕ) → p < q → q < length xs → get_or xs p 0 < get_or xs q 0

abbrev pub AreBelow : ℕ → List ℕ → Type 0
AreBelow n xs = (p : ℕ) → p < length xs → get_or xs p 0 < n

-- No group starts behind i up to j.
abbrev pub Together : State → ℕ → ℕ → Type 0
Together s i j = (b : ℕ) → Has s.starts b → i < b → b ≤ j → ⊥

-- A successor of the open node at i is closed, or open in no earlier group.
abbrev pub IsMet : State → ℕ → ℕ → Type 0
IsMet s i w = ((k : ℕ) × (place_of s w ≡ Closed k))
    ⊎ ((j : ℕ) × (place_of s w ≡ Open j) × ((b : ℕ) → Has s.starts b → b ≤ i → b ≤ j))

-- Places tell where the open nodes are.
pub record IsStack (s : State) : Type 0 where
  pub nodes : (i : ℕ) → i < length s.stack → open_at s i < length s.places
  pub stands : (i : ℕ) → i < length s.stack → place_of s (open_at s i) ≡ Open i
  pub opened : (v i : ℕ) → place_of s v ≡ Open i → (i < length s.stack) × (open_at s i ≡ v)

-- A node that wasn't seen, which each open one reaches.
pub record IsEntry (graph : Graph) (s : State) (v : ℕ) : Type 0 where
  pub unseen : place_of s v ≡ Unseen
  pub reached : (i : ℕ) → i < length s.stack → Gets graph (open_at s i) v

-- Each group of open nodes reaches the next one, and its nodes reach one another. Successors of closed
-- nodes are closed, under no greater number, and those under one number reach one another.
pub record IsSearch (graph : Graph) (s : State) : Type 0 where
  pub places : length s.places ≡ length graph
  pub lefts : length s.left ≡ length graph
  pub most : (v : ℕ) → get_or s.left v 0 ≤ length (successors graph v)
  pub fresh : (v : ℕ) → place_of s v ≡ Unseen → get_or s.left v 0 ≡ length (successors graph v)
  pub nodes : (i : ℕ) → i < length s.stack → open_at s i < length graph
  pub stands : (i : ℕ) → i < length s.stack → place_of s (open_at s i) ≡ Open i
  pub opened : (v i : ℕ) → place_of s v ≡ Open i → (i < length s.stack) × (open_at s i ≡ v)
  pub falls : (v k : ℕ) → place_of s v ≡ Closed k → (w : ℕ) → Contains (successors graph v) w
      → (j : ℕ) × (j ≤ k) × (place_of s w ≡ Closed j)
  pub joined : (v w k : ℕ) → v < length graph → w < length graph → place_of s v ≡ Closed k → place_of s w ≡ Closed k
      → Gets graph v w
  pub listed : (v k : ℕ) → v < length graph → place_of s v ≡ Closed k
      → (k < length s.order) × (get_or s.order k 0 < length graph) × (place_of s (get_or s.order k 0) ≡ Closed k)
  pub numbered : (i : ℕ) → i < length s.order
      → (get_or s.order i 0 < length graph) × ((k : ℕ) × (k ≤ i) × (place_of s (get_or s.order i 0) ≡ Closed k))
  pub counted : count_by is_closed s.places ≡ length s.order
  pub onward : (i j : ℕ) → i ≤ j → j < length s.stack → Gets graph (open_at s i) (open_at s j)
  pub back : (i j : ℕ) → i < j → j < length s.stack → Together s i j → Gets graph (open_at s j) (open_at s i)
  pub met : (i e : ℕ) → i < length s.stack → get_or s.left (open_at s i) 0 ≤ e → e < length (successors graph (open_at s i))
      → IsMet s i (get_or (successors graph (open_at s i)) e 0)
  pub waits : (i : ℕ) → i < length s.stack → 0 < get_or s.left (open_at s i) 0 → Has s.path i
  pub path_rises : Rises s.path
  pub path_below : AreBelow (length s.stack) s.path
  pub starts_rise : Rises s.starts
  pub starts_below : AreBelow (length s.stack) s.starts

-- Successors may be left of the open node at an index, which is in the last group.
pub record IsOn (s : State) (i : ℕ) : Type 0 where
  pub some : 0 < length s.path
  pub last : i ≡ last_of s.path
  pub group : last_of s.starts ≤ i

-- Numbers above a bound were dropped from the end.
pub record IsCut (xs : List ℕ) (bound : ℕ) (ys : List ℕ) : Type 0 where
  pub is : ys ≡ take (length ys) xs
  pub few : length ys ≤ length xs
  pub past : (k : ℕ) → length ys ≤ k → k < length xs → bound < get_or xs k 0
  pub last : last_of ys ≤ bound

-- The groups from the one on that has the open node at an index are joined.
pub record IsJoined (s : State) (i : ℕ) (t : State) : Type 0 where
  pub cut : IsCut s.starts i t.starts
  pub is : t ≡ record s { starts = t.starts }

-- Nodes before some number have been seen.
abbrev pub HasSeen : State → ℕ → Type 0
HasSeen s n = (v : ℕ) → v < n → place_of s v ≢ Unseen

-- Each node is in a component.
pub record IsDone (graph : Graph) (s : State) : Type 0 where
  pub search : IsSearch graph s
  pub closed : (v : ℕ) → v < length graph → (k : ℕ) × (place_of s v ≡ Closed k)

-- What meeting a node leaves, by where the search has it.
abbrev pub MeetsAt : Place → State → ℕ → State → Type 0
MeetsAt Unseen s v t = t ≡ entered s v
MeetsAt (Open j) s v t = IsJoined s j t
MeetsAt (Closed k) s v t = t ≡ s

-- A step of the search.
pub record IsStep (graph : Graph) (s t : State) : Type 0 where
  pub search : IsSearch graph t
  pub less : work t < work s
  pub seen : (v : ℕ) → place_of s v ≢ Unseen → place_of t v ≢ Unseen

-- A search without open nodes that has seen more.
pub record IsFurther (graph : Graph) (s : State) (v : ℕ) (t : State) : Type 0 where
  pub search : IsSearch graph t
  pub empty : length t.stack ≡ 0
  pub here : place_of t v ≢ Unseen
  pub seen : (w : ℕ) → place_of s w ≢ Unseen → place_of t w ≢ Unseen
