-- step: what was made of the patterns of blocks.
use Rattle.std.specs.Prelude.{◌≡◌, ◌≢◌, ℕ, Bool, true, List, get_or, Option, Some}
use Rattle.std.specs.Global.{Vec}
use Rattle.std.specs.List.{AllByRecursion}
use Rattle.sl_ast.specs.Trees.{Head, Pattern}
use Rattle.sl_cube.specs.declared.Cube.{Cube}
use Rattle.sl_shape_patterns.specs.Heads.{AreHeadCubes, IsHeadCount, IsHeadWindow}
use Rattle.sl_shape_patterns.specs.Patterns.{Reading, hull_at}
use Rattle.sl_shape.specs.Below.{IsShaped, shapes_in}
use Rattle.sl_shape.specs.Extents.{extent_bytes, extent_of}
use Rattle.sl_shape.specs.PatternShapes.{Shapes}
use Rattle.sl_shape.specs.Tables.{named_by}
use Rattle.sl_shape.specs.declared.below.Below.{Below}
use Rattle.sl_shape.specs.declared.below.HeadsMade.{HeadsMade}
use Rattle.sl_shape.specs.declared.below.TokenLists.{TokenLists}
use Rattle.sl_shape_tokens.specs.Lists.{IsThere}
use Rattle.sl_shape_tokens.specs.Shapes.{of_nothing}
use Rattle.sl_shape_tokens.specs.declared.shapes.Shape as code
use Rattle.sl_spec.specs.Numbers.{AreMade, AreTold, AreToldOf}
use Rattle.sl_spec.specs.declared.tables.Tables.{Tables}
use Rattle.sl_spec.specs.declared.unfolded.Around.{Around}
use Rattle.sl_spec.specs.declared.unfolded.Unfolded.{Unfolded}

-- what is read by extents
abbrev pub by_extents : Tables → Shapes → List (Option Cube) → Reading
by_extents t shapes hulls =
    record { tables = t; bytes = λ p. extent_bytes (extent_of t shapes p); hulls = hulls }

-- These are the tables that the head's pattern names.
abbrev pub AreHeadTables : Tables → Head → Vec ℕ → Type 0
AreHeadTables t h tables = tables.items ≡ named_by t h.pattern

-- What was made is right where numbers tell the heads of all blocks round these constructors.
abbrev pub AreMadeOf : {V : Type 0} → (Head → V → Type 0) → List Unfolded → List (ℕ × V) → Type 0
AreMadeOf IsRight us made =
    (head_at : ℕ → Head) × AreToldOf head_at us × AreMade IsRight head_at made

-- ---- marks

-- The table is marked, or has no mark.
abbrev pub IsMarked : List Bool → ℕ → Type 0
IsMarked marks table = get_or marks table true ≡ true

-- The tables that the pattern names are marked, where there is a pattern.
abbrev pub AreMarked : Tables → List Bool → Option Pattern → Type 0
AreMarked t marks p = AllByRecursion (IsMarked marks) (named_by t p)

-- What was made of blocks is of heads that name only marked tables.
abbrev pub AreOfMarked : {V : Type 0} → Tables → List Bool → (ℕ → Head) → List (ℕ × V) → Type 0
AreOfMarked t marks head_at made = AreMade (λ h v. AreMarked t marks h.pattern) head_at made

-- ---- what is right

module _ (b : Below) where
  -- what is read with these lists
  abbrev pub read_with : TokenLists → Reading
  read_with l = by_extents b.tables.now (shapes_in b l) b.hulls.now

  -- There is the shape of the head's pattern, which has no fault.
  abbrev pub IsHeadShape : TokenLists → Head → code.Shape → Type 0
  IsHeadShape l h s = (p : Pattern) → h.pattern ≡ Some p → IsShaped b (shapes_in b l) l l p s

  -- Shapes stay right while lists are added, however numbers tell the heads of these blocks.
  abbrev pub KeepsShapes : TokenLists → TokenLists → List Around → List (ℕ × code.Shape)
      → List (ℕ × code.Shape) → Type 0
  KeepsShapes old new blocks before after = (head_at : ℕ → Head) → AreTold head_at blocks
      → AreMade (IsHeadShape old) head_at before → AreMade (IsHeadShape new) head_at after

  -- The lists of the tables' shapes are there, and what was made of each block is right, and
  -- depends on marked tables alone.
  pub record AreRight (l : TokenLists) (head_at : ℕ → Head) (made : HeadsMade) : Type 0 where
    pub there : AllByRecursion (IsThere l.all) b.shapes.now
    pub counts : AreMade (IsHeadCount b.tables.now) head_at made.counts
    pub shapes : AreMade (IsHeadShape l) head_at made.shapes
    pub windows : AreMade (IsHeadWindow (read_with l)) head_at made.windows
    pub sets : AreMade (AreHeadCubes (read_with l)) head_at made.sets
    pub shapes_marked : AreOfMarked b.tables.now made.marks.items head_at made.shapes
    pub windows_marked : AreOfMarked b.tables.now made.marks.items head_at made.windows
    pub sets_marked : AreOfMarked b.tables.now made.marks.items head_at made.sets

  -- It is right where numbers tell the heads of these blocks.
  abbrev pub AreRightFor : TokenLists → List Around → HeadsMade → Type 0
  AreRightFor l blocks made = (head_at : ℕ → Head) × AreTold head_at blocks × AreRight l head_at made

  -- It stays right while lists are added, however numbers tell the heads of these blocks.
  abbrev pub KeepsRight : TokenLists → TokenLists → List Around → HeadsMade → HeadsMade → Type 0
  KeepsRight old new blocks before after = (head_at : ℕ → Head) → AreTold head_at blocks
      → AreRight old head_at before → AreRight new head_at after

  -- It is right where numbers tell the heads of all blocks round these constructors.
  abbrev pub AreRightOf : TokenLists → List Unfolded → HeadsMade → Type 0
  AreRightOf l us made = (head_at : ℕ → Head) × AreToldOf head_at us × AreRight l head_at made

-- The shapes and the hulls of all tables but this one are the same, and their lists are there.
pub record AreSameBut (table : ℕ) (b next : Below) (l : TokenLists) : Type 0 where
  pub tables : b.tables.now ≡ next.tables.now
  pub there : AllByRecursion (IsThere l.all) next.shapes.now
  pub shapes : (w : ℕ) → w ≢ table
      → get_or (shapes_in b l) w of_nothing ≡ get_or (shapes_in next l) w of_nothing
  pub hulls : (w : ℕ) → w ≢ table → hull_at b.hulls.now w ≡ hull_at next.hulls.now w
