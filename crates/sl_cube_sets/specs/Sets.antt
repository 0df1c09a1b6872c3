-- meaning: sets of points, each kept as something that has points: how they lie to one another, and what a point chooses.
use Rattle.std.specs.Prelude.{◌≡◌, ◌≢◌, ℕ, ◌<◌, ◌⊎◌, List, Option, Some, None, slice_get}
use Rattle.sl_cube.specs.Points.{InRange, NotAfter}
use Rattle.sl_cube.specs.declared.Point.{Point}

module _ {X : Type 0} (has : X → Point → Type 0) where
  -- each point of the first is in the second
  abbrev pub IsWithin : X → X → Type 0
  IsWithin a b = (p : Point) → InRange p → has a p → has b p

  -- the second contains the first and is another set
  abbrev pub IsProperlyWithin : X → X → Type 0
  IsProperlyWithin a b = IsWithin a b × (IsWithin b a → ⊥)

  -- the set at the index has the point
  abbrev pub HasAt : List X → Point → ℕ → Type 0
  HasAt xs p i = (x : X) × (slice_get xs i ≡ Some x) × has x p

  -- The set at the first index lies properly within the one at the second.
  pub record LiesBelow (xs : List X) (i j : ℕ) : Type 0 where
    pub inner : X
    pub outer : X
    pub inner_is : slice_get xs i ≡ Some inner
    pub outer_is : slice_get xs j ≡ Some outer
    pub within : IsWithin inner outer
    pub not_around : IsWithin outer inner → ⊥

  -- The choice at a point: the set has the point, and lies properly within each other set that has it.
  pub record IsChoice (xs : List X) (p : Point) (i : ℕ) : Type 0 where
    pub has_point : HasAt xs p i
    pub below : (j : ℕ) → HasAt xs p j → j ≢ i → LiesBelow xs i j

  -- no set has the point
  abbrev pub IsUnmatched : List X → Point → Type 0
  IsUnmatched xs p = (i : ℕ) → HasAt xs p i → ⊥

  -- where some set has the point, there is a choice
  abbrev pub IsSettledAt : List X → Point → Type 0
  IsSettledAt xs p = (j : ℕ) → HasAt xs p j → (i : ℕ) × IsChoice xs p i

  abbrev pub IsSettled : List X → Type 0
  IsSettled xs = (p : Point) → InRange p → IsSettledAt xs p

  -- Some set has the point, and there is no choice.
  pub record IsUnsettledAt (xs : List X) (p : Point) : Type 0 where
    pub one : ℕ
    pub one_has : HasAt xs p one
    pub no_choice : (i : ℕ) → IsChoice xs p i → ⊥

  -- Both sets have the point, and neither lies properly within the other.
  pub record IsPair (xs : List X) (p : Point) (i j : ℕ) : Type 0 where
    pub in_order : i < j
    pub first : HasAt xs p i
    pub second : HasAt xs p j
    pub not_below : LiesBelow xs i j → ⊥
    pub not_above : LiesBelow xs j i → ⊥

  -- The first such pair, by its first index and then by its second.
  pub record IsFirstPair (xs : List X) (p : Point) (i j : ℕ) : Type 0 where
    pub here : IsPair xs p i j
    pub none_before : (k l : ℕ) → (k < i) ⊎ ((k ≡ i) × (l < j)) → IsPair xs p k l → ⊥

-- The point is the least of those for which this holds.
pub record IsLeastWhere (holds : Point → Type 0) (p : Point) : Type 0 where
  pub in_range : InRange p
  pub here : holds p
  pub least : (q : Point) → InRange q → holds q → NotAfter p q

-- The least point for which this holds, or none where there is no such point.
abbrev pub IsLeastOf : (Point → Type 0) → Option Point → Type 0
IsLeastOf holds None = (q : Point) → InRange q → holds q → ⊥
IsLeastOf holds (Some p) = IsLeastWhere holds p
