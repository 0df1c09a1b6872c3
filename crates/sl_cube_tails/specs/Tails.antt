-- view: points, each followed by tails, and which of them covers have.
use Rattle.std.specs.Prelude.{List}
use Rattle.std.specs.List.{Any}
use Rattle.sl_cube.specs.declared.Cube.{Cube}
use Rattle.sl_cube.specs.declared.Point.{Point}
use Rattle.sl_cube.specs.Points.{InRange, IsIn, IsInSome}
use Rattle.sl_cube_tails.specs.declared.covers.Cover.{Cover}

-- Some cover has the point in its head and the tail in its tail.
abbrev pub IsCovered : List Cover → Point → Point → Type 0
IsCovered covers p q = Any (λ (c : Cover). IsIn p c.head × IsIn q c.tail) covers

-- One of the tails isn't covered behind the point.
abbrev pub IsUncovered : Cube → List Cover → Point → Type 0
IsUncovered tails covers p = (q : Point) × InRange q × IsIn q tails × (IsCovered covers p q → ⊥)

-- The point is in one of the cubes, and one of the tails isn't covered behind it.
abbrev pub IsUncoveredIn : List Cube → Cube → List Cover → Point → Type 0
IsUncoveredIn cubes tails covers p = IsInSome cubes p × IsUncovered tails covers p
