-- step: what a union of cubes leaves of another.
use Rattle.std.specs.Prelude.{◌↔◌, ◌⊎◌, List}
use Rattle.sl_cube.specs.declared.Cube.{Cube}
use Rattle.sl_cube.specs.declared.Point.{Point}
use Rattle.sl_cube.specs.Points.{InRange, IsIn, IsInSome}
use Rattle.sl_cube.specs.Search.{KeepsMeeting}

-- The point is in some of the cubes and in none of the others.
pub record IsLeftAt (cubes others : List Cube) (p : Point) : Type 0 where
  pub here : IsInSome cubes p
  pub outside : IsInSome others p → ⊥

-- The points of the result are those that are in some of the cubes and in none of the others.
abbrev pub IsLeft : List Cube → List Cube → List Cube → Type 0
IsLeft cubes others out = (p : Point) → InRange p → IsInSome out p ↔ IsLeftAt cubes others p

-- All points of the cube are left.
abbrev pub IsClear : List Cube → List Cube → Cube → Type 0
IsClear cubes others c = (p : Point) → InRange p → IsIn p c → IsLeftAt cubes others p

-- A cube around the region, all of whose points are left where those of the region are.
pub record IsGrown (cubes others : List Cube) (region big : Cube) : Type 0 where
  pub around : (p : Point) → IsIn p region → IsIn p big
  pub clear : IsClear cubes others region → IsClear cubes others big

-- To what was there points are added that are left, among them all of the region.
pub record Adds (cubes others : List Cube) (region : Cube) (old new : List Cube) : Type 0 where
  pub kept : (p : Point) → IsInSome old p → IsInSome new p
  pub sound : (p : Point) → InRange p → IsInSome new p → IsInSome old p ⊎ IsLeftAt cubes others p
  pub all : (p : Point) → InRange p → IsIn p region → (IsInSome others p → ⊥) → IsInSome new p

-- Each point of the region is in some of the cubes.
abbrev pub IsWithinSome : List Cube → Cube → Type 0
IsWithinSome cubes region = (p : Point) → InRange p → IsIn p region → IsInSome cubes p

-- The cubes have each point of the region, and there the near ones have the points that the others have.
pub record IsNear (cubes others : List Cube) (region : Cube) (near : List Cube) : Type 0 where
  pub within : IsWithinSome cubes region
  pub keeps : KeepsMeeting region others near
