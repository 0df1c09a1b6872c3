-- meaning: where a constructor is chosen at a point and its first table operand has no choice behind it.
use Rattle.std.specs.Prelude.{ℕ, List}
use Rattle.sl_ast.specs.Trees.{Constructor}
use Rattle.sl_ast.specs.Unfolding.{Placed}
use Rattle.sl_cube.specs.Points.{InRange}
use Rattle.sl_cube.specs.declared.Point.{Point}
use Rattle.sl_cube_sets.specs.Sets.{IsLeastWhere}
use Rattle.sl_gap.specs.declared.report.Hole.{Hole}
use Rattle.sl_gap_holes.specs.Windows.{Follows}
use Rattle.sl_gap_operands.specs.Operands.{IsExamined}
use Rattle.sl_gap_tables.specs.Gaps.{IsChosen, IsGap}
use Rattle.sl_spec.specs.declared.tables.Tables.{Tables}

module _ (t : Tables) (cs : List (Placed Constructor)) where
  -- The constructor is chosen at the parent, and no constructor of the table has the child, which lies behind it.
  pub record IsHole (number table place : ℕ) (parent child : Point) : Type 0 where
    pub chosen : IsChosen t cs number parent
    pub follows : Follows place parent child
    pub gap : IsGap t cs table child
    pub parent_range : InRange parent
    pub child_range : InRange child

  -- some point lies behind that no constructor of the table has
  abbrev pub HasHole : ℕ → ℕ → ℕ → Point → Type 0
  HasHole number table place parent = (child : Point) × IsHole number table place parent child

  -- The constructor is examined, and this is the hole that is least by the parent and then by the child.
  pub record IsLeastHole (h : Hole) : Type 0 where
    pub place : ℕ
    pub examined : IsExamined t cs h.ctor h.operand place
    pub parent : IsLeastWhere (HasHole h.ctor h.operand place) h.parent
    pub child : IsLeastWhere (IsHole h.ctor h.operand place h.parent) h.child
