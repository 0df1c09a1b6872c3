-- step: a search of the nodes that some nodes reach.
use Rattle.std.specs.Prelude.{◌≡◌, ℕ, ◌==◌, ◌||◌, Bool, true, false, ◌⊎◌, List, get_or}
use Rattle.std.specs.List.{Contains}
use Rattle.sl_base_graphs.specs.Reaching.{Graph, Reaches, successors}

-- the mark of a number; one that has no room has none
abbrev pub mark_of : List Bool → ℕ → Bool
mark_of marks v = get_or marks v false

abbrev pub IsMarked : List Bool → ℕ → Type 0
IsMarked marks v = mark_of marks v ≡ true

-- One number more has a mark.
abbrev pub Marks : (old : List Bool) → ℕ → (new : List Bool) → Type 0
Marks old v new = (w : ℕ) → mark_of new w ≡ (mark_of old w || (v == w))

-- The node is one of these, or one of them reaches it.
abbrev pub Follows : Graph → List ℕ → ℕ → Type 0
Follows graph starts v = (s : ℕ) × Contains starts s × ((s ≡ v) ⊎ Reaches graph s v)

-- A node has a mark, and stands on the stack if it had none.
pub record Visits (old_marks : List Bool) (old : List ℕ) (v : ℕ)
    (new_marks : List Bool) (new : List ℕ) : Type 0 where
  pub marks : Marks old_marks v new_marks
  pub kept : (w : ℕ) → Contains old w → Contains new w
  pub waits : IsMarked old_marks v ⊎ Contains new v
  pub only : (w : ℕ) → Contains new w → Contains old w ⊎ (v ≡ w)

-- What is marked follows from the nodes; the first of these are marked; of each marked node, but
-- for those that are open, the successors are marked or it waits on the stack.
pub record IsSpread (graph : Graph) (starts first : List ℕ) (is_open : ℕ → Type 0)
    (marks : List Bool) (stack : List ℕ) : Type 0 where
  pub sound : (v : ℕ) → IsMarked marks v → Follows graph starts v
  pub begun : (v : ℕ) → Contains first v → IsMarked marks v
  pub waiting : (v : ℕ) → Contains stack v → IsMarked marks v
  pub closed : (v : ℕ) → IsMarked marks v
      → is_open v ⊎ Contains stack v
      ⊎ ((w : ℕ) → Contains (successors graph v) w → IsMarked marks w)

-- no node is open
abbrev pub none_open : ℕ → Type 0
none_open v = ⊥

-- All successors of a node were visited.
abbrev pub VisitsAll : Graph → (old_marks : List Bool) → (old : List ℕ) → ℕ
    → (new_marks : List Bool) → (new : List ℕ) → Type 0
VisitsAll graph old_marks old v new_marks new = (starts first : List ℕ) → Follows graph starts v
    → IsSpread graph starts first (λ u. u ≡ v) old_marks old
    → IsSpread graph starts first none_open new_marks new
