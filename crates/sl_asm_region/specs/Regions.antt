-- view: the points at which one of several sets is the choice, as cubes.
use Rattle.std.specs.Prelude.{◌↔◌, ℕ, List}
use Rattle.sl_cube.specs.declared.Cube.{Cube}
use Rattle.sl_cube.specs.declared.Point.{Point}
use Rattle.sl_cube.specs.Points.{InRange, IsInSome}
use Rattle.sl_cube_sets.specs.declared.CubeSet.{CubeSet}
use Rattle.sl_cube_sets.specs.Sets.{HasAt, IsChoice, LiesBelow}
use Rattle.sl_cube_sets.specs.Unions.{has_set}

-- The cubes have exactly the points at which the set at the index is the choice.
abbrev pub IsChoiceRegion : List CubeSet → ℕ → List Cube → Type 0
IsChoiceRegion sets index cubes =
    (p : Point) → InRange p → IsInSome cubes p ↔ IsChoice has_set sets p index

-- Some set that lies below the one at the index has the point.
pub record IsOvertaken (sets : List CubeSet) (index : ℕ) (p : Point) : Type 0 where
  pub lower : ℕ
  pub below : LiesBelow has_set sets lower index
  pub has_point : HasAt has_set sets p lower

-- The cubes have exactly the points of the sets that lie below the one at the index.
abbrev pub AreBelow : List CubeSet → ℕ → List Cube → Type 0
AreBelow sets index cubes = (p : Point) → IsInSome cubes p ↔ IsOvertaken sets index p
