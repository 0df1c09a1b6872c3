-- step: covers of the points at which a set isn't the choice, and of those behind which another table has one.
use Rattle.std.specs.Prelude.{◌≡◌, ◌↔◌, ◌*◌, ◌^◌, ◌<◌, ◌%◌, ℕ, ◌⊎◌, List, Some, slice_get}
use Rattle.sl_cube.specs.Points.{InRange, IsIn, IsInSome}
use Rattle.sl_cube.specs.declared.Cube.{Cube}
use Rattle.sl_cube.specs.declared.Point.{Point}
use Rattle.sl_cube_sets.specs.Settled.{Matches}
use Rattle.sl_cube_sets.specs.Unions.{AreInside, IsBelow}
use Rattle.sl_cube_sets.specs.declared.CubeSet.{CubeSet}
use Rattle.sl_cube_tails.specs.Tails.{IsCovered}
use Rattle.sl_cube_tails.specs.declared.covers.Cover.{Cover}
use Rattle.sl_gap_holes.specs.Windows.{Follows}

-- the last bytes of a point, from the place on that lies behind the bytes of another point
abbrev pub tail_of : ℕ → Point → Point
tail_of place q = record { bytes = q.bytes % 2 ^ (8 * place); context = 0 }

-- The cube has the tails for so many bytes.
abbrev pub AreTails : ℕ → Cube → Type 0
AreTails place tails = (q : Point) → InRange q → IsIn q tails ↔ ((q.bytes < 2 ^ (8 * place)) × (q.context ≡ 0))

-- The cube has the points that follow the point.
abbrev pub AreFollowers : ℕ → Point → Cube → Type 0
AreFollowers place p cube = (q : Point) → InRange q → IsIn q cube ↔ Follows place p q

-- The cover has a point and its tail exactly where the cube has what follows.
abbrev pub IsMoved : ℕ → Cube → Cover → Type 0
IsMoved place cube cover = (p q : Point) → InRange p → InRange q → Follows place p q
    → (IsIn p cover.head × IsIn (tail_of place q) cover.tail) ↔ IsIn q cube

-- It is the cube, with all tails.
abbrev pub IsWithAll : Cube → Cover → Type 0
IsWithAll cube cover = (p q : Point) → (IsIn p cover.head × IsIn q cover.tail) ↔ IsIn p cube

-- The new covers have what the old ones have, and the points of these cubes with all tails.
abbrev pub AddsAll : List Cube → List Cover → List Cover → Type 0
AddsAll cubes old new = (p q : Point) → IsCovered new p q ↔ (IsCovered old p q ⊎ IsInSome cubes p)

-- The new covers have what the old ones have, and the points that follow in these cubes.
abbrev pub AddsMoved : ℕ → List Cube → List Cover → List Cover → Type 0
AddsMoved place cubes old new = (p q : Point) → InRange p → InRange q → Follows place p q
    → IsCovered new p (tail_of place q) ↔ (IsCovered old p (tail_of place q) ⊎ IsInSome cubes q)

-- A set that lies below this one has the point.
abbrev pub HasBelow : List CubeSet → ℕ → Point → Type 0
HasBelow sets set p = (other : ℕ) × IsBelow sets other set × Matches sets p other

-- The new covers have what the old ones have, and the points of the other set where it lies below this one.
abbrev pub AddsBelow : List CubeSet → ℕ → ℕ → List Cover → List Cover → Type 0
AddsBelow sets set other old new = (p q : Point)
    → IsCovered new p q ↔ (IsCovered old p q ⊎ (IsBelow sets other set × Matches sets p other))

-- The covers have the points of the sets that lie below this one.
abbrev pub AreBelow : List CubeSet → ℕ → List Cover → Type 0
AreBelow sets set covers = (p q : Point) → InRange p → IsCovered covers p q ↔ HasBelow sets set p

-- And the points that follow in the cubes.
abbrev pub AreCovers : List CubeSet → ℕ → ℕ → List Cube → List Cover → Type 0
AreCovers sets set place cubes covers = (p q : Point) → InRange p → InRange q → Follows place p q
    → IsCovered covers p (tail_of place q) ↔ (HasBelow sets set p ⊎ IsInSome cubes q)

-- The cube has all points of the set at the index.
abbrev pub IsHullAt : List CubeSet → ℕ → Cube → Type 0
IsHullAt sets set hull = (s : CubeSet) → slice_get sets set ≡ Some s → AreInside hull s.cubes.items
