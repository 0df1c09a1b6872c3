-- step: the least point of some cubes, one cube after the other.
use Rattle.std.specs.Prelude.{◌≡◌, ◌⊎◌, List, Option, Some, None}
use Rattle.sl_cube.specs.declared.Cube.{Cube}
use Rattle.sl_cube.specs.declared.Point.{Point}
use Rattle.sl_cube.specs.Points.{NotAfter, IsInSome}

-- The result is one of the two points and after neither, or there is none.
abbrev pub IsEarlier : Option Point → Option Point → Option Point → Type 0
IsEarlier best found None = (best ≡ None) × (found ≡ None)
IsEarlier best found (Some p) = ((best ≡ Some p) ⊎ (found ≡ Some p))
    × ((q : Point) → best ≡ Some q → NotAfter p q) × ((q : Point) → found ≡ Some q → NotAfter p q)

-- One of the cubes has the point, and none of the others does.
abbrev pub IsInNone : List Cube → List Cube → Point → Type 0
IsInNone cubes others q = IsInSome cubes q × (IsInSome others q → ⊥)
