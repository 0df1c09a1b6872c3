-- step: what is left of the sets in a region of points, and what the search for a point that isn't settled keeps.
use Rattle.std.specs.Prelude.{◌≡◌, ◌↔◌, ◌≢◌, ℕ, ◌⊎◌, List, Some, None, Option, Bool, true, false}
use Rattle.std.specs.List.{Any}
use Rattle.std.specs.Cow.{cow_slice_items}
use Rattle.sl_cube.specs.declared.Cube.{Cube}
use Rattle.sl_cube.specs.declared.Point.{Point}
use Rattle.sl_cube.specs.Points.{InRange, IsIn, IsInSome, NotAfter}
use Rattle.sl_cube_sets.specs.declared.CubeSet.{CubeSet}
use Rattle.sl_cube_sets.specs.declared.candidate.Candidate.{Candidate}
use Rattle.sl_cube_sets.specs.Unions.{IsBelow}
use Rattle.sl_cube_sets.specs.Settled.{IsSettled, IsUnsettled, IsBest, Matches}

-- the cubes that are left of a set
abbrev pub cubes_of : Candidate → List Cube
cubes_of c = cow_slice_items c.cubes

-- What is left of the set at the place has the point.
abbrev pub IsThere : List Candidate → Point → ℕ → Type 0
IsThere left p i = Any (λ (c : Candidate). (c.set ≡ i) × IsInSome (cubes_of c) p) left

-- In the region both lists have the same points of each set.
abbrev pub KeepsAll : Cube → List Candidate → List Candidate → Type 0
KeepsAll region left kept = (p : Point) → InRange p → IsIn p region → (i : ℕ) → IsThere kept p i ↔ IsThere left p i

-- The new list has what the old one has, and what is left of one set.
abbrev pub Adds : List Candidate → ℕ → List Cube → List Candidate → Type 0
Adds old set cubes new = (p : Point) (i : ℕ) → IsThere new p i ↔ (IsThere old p i ⊎ ((set ≡ i) × IsInSome cubes p))

-- In the region the new list has what the old one has, and what is left of the candidate.
abbrev pub AddsWithin : Cube → Candidate → List Candidate → List Candidate → Type 0
AddsWithin region c old new = (p : Point) → InRange p → IsIn p region
    → (i : ℕ) → IsThere new p i ↔ (IsThere old p i ⊎ ((c.set ≡ i) × IsInSome (cubes_of c) p))

-- The cubes have each point of the region.
abbrev pub Fills : Cube → List Cube → Type 0
Fills region cubes = (p : Point) → InRange p → IsIn p region → IsInSome cubes p

-- What is told of the points where the second list is told is true where the first one is.
pub record Carries (sets : List CubeSet) (region : Cube) (left thin : List Candidate) : Type 0 where
  pub settled : (p : Point) → InRange p → IsIn p region → IsSettled (IsBelow sets) (IsThere thin p) → IsSettled (IsBelow sets) (IsThere left p)
  pub unsettled : (p : Point) → InRange p → IsIn p region → IsUnsettled (IsBelow sets) (IsThere thin p) → IsUnsettled (IsBelow sets) (IsThere left p)

-- A point of the region that is not settled, or none where each one is.
abbrev pub IsAnswer : List CubeSet → Cube → List Candidate → Option Point → Type 0
IsAnswer sets region left None = (p : Point) → InRange p → IsIn p region → IsSettled (IsBelow sets) (IsThere left p)
IsAnswer sets region left (Some p) = InRange p × IsIn p region × IsUnsettled (IsBelow sets) (IsThere left p)

-- At all points of the region the same ones are there.
abbrev pub IsConstant : Cube → List Candidate → Type 0
IsConstant region left = (p q : Point) → IsIn p region → IsIn q region → (i : ℕ) → IsThere left p i → IsThere left q i

-- None is there at the point.
abbrev pub IsNoneThere : List Candidate → Point → Type 0
IsNoneThere left p = (i : ℕ) → IsThere left p i → ⊥

-- The set that is told, if any, lies below the set at the place.
abbrev pub IsAbove : List CubeSet → Option ℕ → ℕ → Type 0
IsAbove sets None i = ⊥
IsAbove sets (Some lower) i = IsBelow sets lower i

-- The candidate is added, or its set lies above the one that is told and nothing is.
abbrev pub AddsUnless : List CubeSet → Option ℕ → Candidate → List Candidate → List Candidate → Type 0
AddsUnless sets filled c old new = Adds old c.set (cubes_of c) new ⊎ ((new ≡ old) × IsAbove sets filled c.set)

-- Those that lack in the second list lie above the set that is told.
pub record IsWithoutAbove (sets : List CubeSet) (filled : Option ℕ) (left thin : List Candidate) : Type 0 where
  pub among : (p : Point) (i : ℕ) → IsThere thin p i → IsThere left p i
  pub leaves : (p : Point) (i : ℕ) → IsThere left p i → IsThere thin p i ⊎ IsAbove sets filled i

-- The set at the place that is told, if any, has each point of the region.
abbrev pub IsFilledBy : Cube → List Candidate → Option ℕ → Type 0
IsFilledBy region left None = Unit {0}
IsFilledBy region left (Some m) = (p : Point) → InRange p → IsIn p region → IsThere left p m

-- The other candidate is there, is another set, and the set isn't below it.
abbrev pub StandsBeside : List CubeSet → Point → ℕ → Candidate → Bool → Type 0
StandsBeside sets p set other true = IsInSome (cubes_of other) p × (other.set ≢ set) × (IsBelow sets set other.set → ⊥)
StandsBeside sets p set other false = IsInSome (cubes_of other) p → other.set ≢ set → IsBelow sets set other.set

-- The set lies below each other one that is there.
abbrev pub IsLowest : List CubeSet → List Candidate → Point → ℕ → Type 0
IsLowest sets left p i = (j : ℕ) → IsThere left p j → j ≢ i → IsBelow sets i j

-- What is left of the candidate has the point, and its set lies below each other one that is there.
abbrev pub IsBestHere : List CubeSet → List Candidate → Point → Candidate → Type 0
IsBestHere sets left p c = IsInSome (cubes_of c) p × IsLowest sets left p c.set

-- One of those that are there is the best, or none is.
abbrev pub HasBest : List CubeSet → List Candidate → Point → Bool → Type 0
HasBest sets left p true = (i : ℕ) × IsBest (IsBelow sets) (IsThere left p) i
HasBest sets left p false = (i : ℕ) → IsBest (IsBelow sets) (IsThere left p) i → ⊥

-- The result is the set where the test holds, and else what was found.
abbrev pub IsChosen : Bool → ℕ → Option ℕ → Option ℕ → Type 0
IsChosen true set found result = result ≡ Some set
IsChosen false set found result = result ≡ found

-- The point is the least of the region that is not settled.
pub record IsLeastIn (sets : List CubeSet) (region : Cube) (left : List Candidate) (p : Point) : Type 0 where
  pub here : IsAnswer sets region left (Some p)
  pub least : (q : Point) → InRange q → IsIn q region → IsUnsettled (IsBelow sets) (IsThere left q) → NotAfter p q

-- At each point the same sets are there as match.
abbrev pub AreAllOf : List CubeSet → List Candidate → Type 0
AreAllOf sets left = (p : Point) (i : ℕ) → IsThere left p i ↔ Matches sets p i

-- Each one that is there is one of two sets, the first of which lies below the second.
pub record AreNested (sets : List CubeSet) (left : List Candidate) : Type 0 where
  pub low : ℕ
  pub high : ℕ
  pub below : IsBelow sets low high
  pub only : (p : Point) (i : ℕ) → IsThere left p i → (i ≡ low) ⊎ (i ≡ high)
