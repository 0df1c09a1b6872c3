-- view: the points at which a constructor is chosen, as cubes.
use Rattle.std.specs.Prelude.{◌≡◌, ◌↔◌, ℕ, List, Some, slice_get}
use Rattle.sl_ast.specs.Trees.{Constructor}
use Rattle.sl_ast.specs.Unfolding.{Placed}
use Rattle.sl_conflict.specs.declared.table_sets.TableSets.{TableSets}
use Rattle.sl_cube.specs.declared.Cube.{Cube}
use Rattle.sl_cube.specs.declared.Point.{Point}
use Rattle.sl_cube.specs.Points.{InRange, IsInSome}
use Rattle.sl_cube_sets.specs.Sets.{IsChoice}
use Rattle.sl_cube_sets.specs.Unions.{has_set}
use Rattle.sl_decode_choices.specs.Choices.{Chooses}
use Rattle.sl_spec.specs.declared.tables.Tables.{Tables}

-- At the point some table chooses the constructor.
abbrev pub IsChosen : Tables → List (Placed Constructor) → ℕ → Point → Type 0
IsChosen t cs ctor p = (table : ℕ) × Chooses t cs table p (Some ctor)

-- The cubes have exactly the points at which the constructor is chosen.
abbrev pub IsRegion : Tables → List (Placed Constructor) → ℕ → List Cube → Type 0
IsRegion t cs ctor cubes = (p : Point) → InRange p → IsInSome cubes p ↔ IsChosen t cs ctor p

-- Of the sets of a table, one of the constructor is the choice at the point.
pub record IsPicked (kept : TableSets) (number : ℕ) (p : Point) : Type 0 where
  pub place : ℕ
  pub own : slice_get kept.ctors.items place ≡ Some number
  pub choice : IsChoice has_set kept.sets.items p place

-- The cubes have exactly those points.
abbrev pub ArePicks : TableSets → ℕ → List Cube → Type 0
ArePicks kept number cubes = (p : Point) → InRange p → IsInSome cubes p ↔ IsPicked kept number p
