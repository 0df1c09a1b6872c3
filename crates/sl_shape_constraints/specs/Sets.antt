-- meaning: cubes and unions of cubes as the points for which something holds.
use Rattle.std.specs.Prelude.{◌↔◌, ◌⊎◌, List}
use Rattle.sl_cube.specs.Points.{InRange, IsIn, IsInSome}
use Rattle.sl_cube.specs.declared.Cube.{Cube}
use Rattle.sl_cube.specs.declared.Point.{Point}

-- The cube has the points for which this holds.
abbrev pub IsCubeOf : (Point → Type 0) → Cube → Type 0
IsCubeOf P cube = (p : Point) → InRange p → IsIn p cube ↔ P p

-- It holds of no point.
abbrev pub IsNowhere : (Point → Type 0) → Type 0
IsNowhere P = (p : Point) → InRange p → P p → ⊥

-- The cubes have the points for which this holds.
abbrev pub IsUnionOf : (Point → Type 0) → List Cube → Type 0
IsUnionOf P cubes = (p : Point) → InRange p → IsInSome cubes p ↔ P p

-- The new cubes have the points of the old ones, and those for which this holds.
abbrev pub Adds : List Cube → (Point → Type 0) → List Cube → Type 0
Adds old P new = (p : Point) → InRange p → IsInSome new p ↔ (IsInSome old p ⊎ P p)
