-- step: what is left of sets in a region of points, as the search for choices keeps it.
use Rattle.std.specs.Prelude.{◌≡◌, ◌↔◌, ℕ, ◌⊎◌, List, Option, Some, None, IfSome}
use Rattle.std.specs.List.{Any}
use Rattle.sl_cube.specs.declared.Cube.{Cube}
use Rattle.sl_cube.specs.declared.Point.{Point}
use Rattle.sl_cube.specs.Points.{InRange, IsIn, IsInSome}
use Rattle.sl_cube_marks.specs.declared.narrowing.Rest.{Rest}
use Rattle.sl_cube_sets.specs.Left.{Fills}
use Rattle.sl_cube_sets.specs.Settled.{IsBest, Matches}
use Rattle.sl_cube_sets.specs.Sets.{IsChoice}
use Rattle.sl_cube_sets.specs.Unions.{IsBelow, has_set}
use Rattle.sl_cube_sets.specs.declared.CubeSet.{CubeSet}

-- What is left of the set at the index has the point.
abbrev pub IsThere : List Rest → Point → ℕ → Type 0
IsThere left p i = Any (λ (r : Rest). (r.set ≡ i) × IsInSome r.cubes.items p) left

-- In the region the new list has what the old one has, and what is left of one set.
abbrev pub AddsWithin : Cube → ℕ → List Cube → List Rest → List Rest → Type 0
AddsWithin region set cubes old new = (p : Point) → InRange p → IsIn p region
    → (i : ℕ) → IsThere new p i ↔ (IsThere old p i ⊎ ((set ≡ i) × IsInSome cubes p))

-- The set that is told, if any, lies below the set at the index.
abbrev pub IsAbove : List CubeSet → Option ℕ → ℕ → Type 0
IsAbove sets None i = ⊥
IsAbove sets (Some lower) i = IsBelow sets lower i

-- What is left of the set is added, or it lies above the one that is told and nothing is.
abbrev pub AddsUnless : List CubeSet → Cube → Option ℕ → Rest → List Rest → List Rest → Type 0
AddsUnless sets region filled r old new =
    AddsWithin region r.set r.cubes.items old new ⊎ ((new ≡ old) × IsAbove sets filled r.set)

-- The result is the set, which fills the region, or what was found before.
abbrev pub IsFiller : Cube → Rest → Option ℕ → Option ℕ → Type 0
IsFiller region r found result = (result ≡ found) ⊎ ((result ≡ Some r.set) × Fills region r.cubes.items)

-- The set that is told, if any, is there at each point of the region.
abbrev pub IsFilledBy : Cube → List Rest → Option ℕ → Type 0
IsFilledBy region left None = Unit {0}
IsFilledBy region left (Some m) = (p : Point) → InRange p → IsIn p region → IsThere left p m

-- In the region the new list has only what the old one has, and all of it but some sets above the one that is told.
pub record KeepsChoices (sets : List CubeSet) (region : Cube) (filled : Option ℕ) (left kept : List Rest) : Type 0 where
  pub among : (p : Point) → InRange p → IsIn p region → (i : ℕ) → IsThere kept p i → IsThere left p i
  pub leaves : (p : Point) → InRange p → IsIn p region → (i : ℕ) → IsThere left p i
      → IsThere kept p i ⊎ IsAbove sets filled i

-- At all points of the region the same sets are there.
abbrev pub IsConstant : Cube → List Rest → Type 0
IsConstant region left = (p q : Point) → IsIn p region → IsIn q region → (i : ℕ) → IsThere left p i → IsThere left q i

-- The result is what was found before, or the set, which has the point. It isn't the set only where this lacks the point
-- or isn't below what was found; it is the set in place of another only where it lies below it.
pub record IsBetter (sets : List CubeSet) (p : Point) (r : Rest) (found result : Option ℕ) : Type 0 where
  pub one : (result ≡ found) ⊎ ((result ≡ Some r.set) × IsInSome r.cubes.items p)
  pub old : (m : ℕ) → found ≡ Some m
      → (result ≡ Some m) ⊎ (IsInSome r.cubes.items p × IsBelow sets r.set m)
  pub new : IsInSome r.cubes.items p
      → (result ≡ Some r.set) ⊎ ((m : ℕ) × (found ≡ Some m) × (IsBelow sets r.set m → ⊥))

-- The result is there, and it is the one that lies below each other one there, where one does.
pub record FindsBest (sets : List CubeSet) (left : List Rest) (p : Point) (found : Option ℕ) : Type 0 where
  pub there : IfSome found (IsThere left p)
  pub best : (i : ℕ) → IsBest (IsBelow sets) (IsThere left p) i → found ≡ Some i

-- At each point of the region only sets are there that match, and the choice is.
pub record HoldsChoices (sets : List CubeSet) (region : Cube) (left : List Rest) : Type 0 where
  pub right : (p : Point) → InRange p → IsIn p region → (i : ℕ) → IsThere left p i → Matches sets p i
  pub choice : (p : Point) → InRange p → IsIn p region → (i : ℕ) → IsChoice has_set sets p i → IsThere left p i

-- At each point of the region the same sets are there as match.
abbrev pub AreAllOf : List CubeSet → Cube → List Rest → Type 0
AreAllOf sets region left = (p : Point) → InRange p → IsIn p region → (i : ℕ) → IsThere left p i ↔ Matches sets p i
