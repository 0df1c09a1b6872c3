-- step: the best of those that are there, for whatever is meant by below and there.
use Rattle.std.specs.Prelude.{◌≡◌, ◌≢◌, ℕ, ◌<◌, ◌⊎◌, List, Some, None, Option}
use Rattle.sl_cube.specs.declared.Point.{Point}
use Rattle.sl_cube.specs.Points.{InRange, NotAfter}
use Rattle.sl_cube_sets.specs.declared.CubeSet.{CubeSet}
use Rattle.sl_cube_sets.specs.Sets.{HasAt, IsPair}
use Rattle.sl_cube_sets.specs.Unions.{has_set, IsBelow}

-- Of those that are there, one lies below each other.
module _ (Below : ℕ → ℕ → Type 0) (There : ℕ → Type 0) where
  pub record IsBest (i : ℕ) : Type 0 where
    pub there : There i
    pub below : (j : ℕ) → There j → j ≢ i → Below i j

  -- Where some are there, one is the best.
  abbrev pub IsSettled : Type 0
  IsSettled = (j : ℕ) → There j → (i : ℕ) × IsBest i

  -- Some are there, and none of them is the best.
  pub record IsUnsettled : Type 0 where
    pub one : ℕ
    pub one_there : There one
    pub none_best : (i : ℕ) → IsBest i → ⊥

-- The set at the index has the point.
abbrev pub Matches : List CubeSet → Point → ℕ → Type 0
Matches sets = HasAt has_set sets

-- At the point some set matches, and none is the choice.
abbrev pub LacksBestAt : List CubeSet → Point → Type 0
LacksBestAt sets p = IsUnsettled (IsBelow sets) (Matches sets p)

abbrev pub HasBestAt : List CubeSet → Point → Type 0
HasBestAt sets p = IsSettled (IsBelow sets) (Matches sets p)

-- The least point that is not settled, or none where each one is.
abbrev pub IsLeastLacking : List CubeSet → Option Point → Type 0
IsLeastLacking sets None = (p : Point) → InRange p → HasBestAt sets p
IsLeastLacking sets (Some p) =
    InRange p × LacksBestAt sets p × ((q : Point) → InRange q → LacksBestAt sets q → NotAfter p q)

-- The first that makes a pair with the given one.
abbrev pub IsPairAfter : List CubeSet → Point → ℕ → Option ℕ → Type 0
IsPairAfter sets p i None = (j : ℕ) → IsPair has_set sets p i j → ⊥
IsPairAfter sets p i (Some j) = IsPair has_set sets p i j × ((l : ℕ) → l < j → IsPair has_set sets p i l → ⊥)

-- The first pair, by its first index and then by its second.
abbrev pub IsFirstPairOf : List CubeSet → Point → Option (ℕ × ℕ) → Type 0
IsFirstPairOf sets p None = (i j : ℕ) → IsPair has_set sets p i j → ⊥
IsFirstPairOf sets p (Some r) = IsPair has_set sets p r.0 r.1
    × ((k l : ℕ) → (k < r.0) ⊎ ((k ≡ r.0) × (l < r.1)) → IsPair has_set sets p k l → ⊥)
