-- meaning: what a table leaves unmatched, and where a constructor is chosen.
use Rattle.std.specs.Prelude.{◌≡◌, ℕ, List, length, Option, Some, slice_get}
use Rattle.sl_ast.specs.Trees.{Constructor}
use Rattle.sl_ast.specs.Unfolding.{Placed}
use Rattle.sl_conflict.specs.Ambiguity.{IsOf}
use Rattle.sl_conflict.specs.Soundness.{has_in, numbers}
use Rattle.sl_cube.specs.Points.{InRange}
use Rattle.sl_cube.specs.declared.Point.{Point}
use Rattle.sl_cube_sets.specs.Sets.{IsChoice, IsLeastOf, IsUnmatched}
use Rattle.sl_spec.specs.declared.tables.Tables.{Tables}

module _ (t : Tables) (cs : List (Placed Constructor)) where
  -- No constructor of the table has the point.
  abbrev pub IsGap : ℕ → Point → Type 0
  IsGap table p = IsUnmatched (has_in t cs table) (numbers t) p

  -- the least point that the table leaves unmatched, or that it leaves none
  abbrev pub TellsGap : ℕ → Option Point → Type 0
  TellsGap table told = IsLeastOf (IsGap table) told

  -- The constructor of this number is the choice of its table at the point.
  pub record IsChosen (number : ℕ) (p : Point) : Type 0 where
    pub table : ℕ
    pub is_of : IsOf t.constructors table number
    pub choice : IsChoice (has_in t cs table) (numbers t) p number

  -- It is the choice at no point.
  abbrev pub IsShadowed : ℕ → Type 0
  IsShadowed number = (p : Point) → InRange p → IsChosen number p → ⊥

  -- what each table leaves unmatched, by its number
  pub record TellGaps (told : List (Option Point)) : Type 0 where
    pub counted : length told ≡ length t.tables
    pub each : (table : ℕ) (one : Option Point) → slice_get told table ≡ Some one → TellsGap table one
