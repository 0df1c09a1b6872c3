-- step: what the search for an uncovered point keeps.
use Rattle.std.specs.Prelude.{◌↔◌, ◌⊎◌, List, Option, Some, None}
use Rattle.sl_cube.specs.declared.Cube.{Cube}
use Rattle.sl_cube.specs.declared.Point.{Point}
use Rattle.sl_cube.specs.Points.{InRange, IsIn, IsInSome, NotAfter}
use Rattle.sl_cube_tails.specs.Tails.{IsCovered, IsUncovered}
use Rattle.sl_cube_tails.specs.declared.covers.Cover.{Cover}

-- Each of the tails is covered behind each point of the region.
abbrev pub CoversAll : Cube → Cube → List Cover → Type 0
CoversAll region tails covers = (p : Point) → InRange p → IsIn p region
    → (q : Point) → InRange q → IsIn q tails → IsCovered covers p q

-- In the region the kept covers have what the others have.
abbrev pub KeepsCovers : Cube → List Cover → List Cover → Type 0
KeepsCovers region covers kept = (p : Point) → InRange p → IsIn p region
    → (q : Point) → IsCovered kept p q ↔ IsCovered covers p q

-- In the region the new covers have what the old ones have, and what the cover has.
abbrev pub AddsOver : Cube → Cover → List Cover → List Cover → Type 0
AddsOver region c old new = (p : Point) → InRange p → IsIn p region
    → (q : Point) → IsCovered new p q ↔ (IsCovered old p q ⊎ (IsIn p c.head × IsIn q c.tail))

-- At all points of the region the same tails are covered.
abbrev pub AreConstant : Cube → List Cover → Type 0
AreConstant region covers = (p other q : Point) → IsIn p region → IsIn other region → IsCovered covers p q → IsCovered covers other q

-- The new cubes have what the old ones have, and the tail of the cover, if its head has the point.
abbrev pub AddsTail : Point → Cover → List Cube → List Cube → Type 0
AddsTail p c old new = (q : Point) → IsInSome new q ↔ (IsInSome old q ⊎ (IsIn p c.head × IsIn q c.tail))

-- A point of the region behind which one of the tails isn't covered, or none where there is no such point.
abbrev pub IsSomeFound : Cube → Cube → List Cover → Option Point → Type 0
IsSomeFound region tails covers None = (p : Point) → InRange p → IsIn p region → IsUncovered tails covers p → ⊥
IsSomeFound region tails covers (Some p) = InRange p × IsIn p region × IsUncovered tails covers p

-- The least point of the region behind which one of the tails isn't covered.
pub record IsLeastIn (region tails : Cube) (covers : List Cover) (p : Point) : Type 0 where
  pub here : IsSomeFound region tails covers (Some p)
  pub least : (q : Point) → InRange q → IsIn q region → IsUncovered tails covers q → NotAfter p q

-- It is told, or there is none.
abbrev pub IsLeastFound : Cube → Cube → List Cover → Option Point → Type 0
IsLeastFound region tails covers None = IsSomeFound region tails covers None
IsLeastFound region tails covers (Some p) = IsLeastIn region tails covers p
