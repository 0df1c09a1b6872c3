-- view: holes by the sets of a table and the cubes of another.
use Rattle.std.specs.Prelude.{ℕ, List, Option, Some, None}
use Rattle.sl_conflict.specs.declared.table_sets.TableSets.{TableSets}
use Rattle.sl_cube.specs.Points.{InRange, IsInSome}
use Rattle.sl_cube.specs.declared.Cube.{Cube}
use Rattle.sl_cube.specs.declared.Point.{Point}
use Rattle.sl_cube_sets.specs.Sets.{IsChoice, IsLeastWhere}
use Rattle.sl_cube_sets.specs.Unions.{has_set}
use Rattle.sl_gap_holes.specs.Windows.{Follows}
use Rattle.sl_gap_holes.specs.declared.holes.HolePoints.{HolePoints}

module _ (kept : TableSets) (set : ℕ) (cubes : List Cube) (place : ℕ) where
  -- The set is the choice at the parent, and none of the cubes has the child, which follows it.
  pub record IsHoleAt (parent child : Point) : Type 0 where
    pub choice : IsChoice has_set kept.sets.items parent set
    pub follows : Follows place parent child
    pub unmatched : IsInSome cubes child → ⊥
    pub parent_range : InRange parent
    pub child_range : InRange child

  -- some point follows that none of the cubes has
  abbrev pub HasHole : Point → Type 0
  HasHole parent = (child : Point) × IsHoleAt parent child

  -- the hole that is least by the parent and then by the child; or there is none
  abbrev pub TellsHole : Option HolePoints → Type 0
  TellsHole None = (parent child : Point) → IsHoleAt parent child → ⊥
  TellsHole (Some h) = IsLeastWhere HasHole h.parent × IsLeastWhere (IsHoleAt h.parent) h.child
