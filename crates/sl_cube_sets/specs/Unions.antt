-- law: unions of cubes as sets of points.
use Rattle.std.specs.Prelude.{◌≡◌, ◌↔◌, ℕ, List}
use Rattle.std.specs.Int.{bit_at}
use Rattle.sl_cube.specs.declared.Cube.{Cube}
use Rattle.sl_cube.specs.declared.Point.{Point}
use Rattle.sl_cube.specs.Points.{InRange, IsIn, IsInSome}
use Rattle.sl_cube_sets.specs.Sets.{LiesBelow}
use Rattle.sl_cube_sets.specs.declared.CubeSet.{CubeSet}

-- The set has the point: one of its cubes does.
abbrev pub has_set : CubeSet → Point → Type 0
has_set s p = IsInSome s.cubes.items p

-- Each point of the first cubes is in one of the second.
abbrev pub AreWithin : List Cube → List Cube → Type 0
AreWithin inner outer = (p : Point) → InRange p → IsInSome inner p → IsInSome outer p

-- Each point of the cubes is in the hull.
abbrev pub AreInside : Cube → List Cube → Type 0
AreInside hull cubes = (p : Point) → InRange p → IsInSome cubes p → IsIn p hull

-- The set at the first index lies properly within the one at the second.
abbrev pub IsBelow : List CubeSet → ℕ → ℕ → Type 0
IsBelow sets = LiesBelow has_set sets

-- All points of the cubes have this bit at this place.
abbrev pub AllShare : (Point → ℕ) → List Cube → ℕ → ℕ → Type 0
AllShare part cubes i bit = (p : Point) → InRange p → IsInSome cubes p → bit_at (part p) i ≡ bit

-- The point has each bit that all points of the cubes have.
abbrev pub HasShared : (Point → ℕ) → List Cube → Point → Type 0
HasShared part cubes q = (i bit : ℕ) → AllShare part cubes i bit → bit_at (part q) i ≡ bit

-- The points of the hull are those that agree with each bit on which all points of the cubes agree.
abbrev pub IsHullOf : List Cube → Cube → Type 0
IsHullOf cubes h = (q : Point) → InRange q
    → IsIn q h ↔ (HasShared (λ p. p.bytes) cubes q × HasShared (λ p. p.context) cubes q)
