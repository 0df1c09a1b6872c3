-- step: one table more is known.
use Rattle.std.specs.Prelude.{◌≡◌, ℕ, List, ◌∷◌, ◌++◌, Option, Some, None, length, map, set}
use Rattle.std.specs.List.{AllByRecursion, Any}
use Rattle.sl_ast.specs.Trees.{Constructor}
use Rattle.sl_ast.specs.Unfolding.{Placed}
use Rattle.sl_cube.specs.declared.Cube.{Cube}
use Rattle.sl_shape_patterns.specs.Hulls.{IsHullOrNone}
use Rattle.sl_shape.specs.HeadsMade.{AreRightOf}
use Rattle.sl_shape.specs.PatternShapes.{Shapes, token_sizes}
use Rattle.sl_shape.specs.Tables.{CtorHolds, CtorTells, IfSetAt, IsSetAt, constructors_of, ctor_shape}
use Rattle.sl_shape.specs.declared.below.Below.{Below}
use Rattle.sl_shape.specs.declared.faults.Fault.{Fault}
use Rattle.sl_shape.specs.declared.shaping.Known.{Known}
use Rattle.sl_shape_tokens.specs.Bytes.{Knows}
use Rattle.sl_shape_tokens.specs.Lists.{IsThere, Keeps, seen}
use Rattle.sl_shape_tokens.specs.Shapes.{of_table}
use Rattle.sl_spec.specs.declared.tables.Tables.{Tables}
use Rattle.sl_spec.specs.declared.unfolded.Unfolded.{Unfolded}

-- the shapes of the tables
abbrev pub shapes_known : Known → Shapes
shapes_known k = map (seen k.lists.all) k.shapes.items

-- There is a shape and a hull for each table, and a set for each constructor.
pub record IsRight (t : Tables) (count : ℕ) (k : Known) : Type 0 where
  pub sizes : k.lists.bytes.sizes.items ≡ token_sizes t
  pub old : List (List ℕ)
  pub knows : Knows k.lists.bytes old
  pub keeps : Keeps old k.lists.all
  pub there : AllByRecursion (IsThere k.lists.all) k.shapes.items
  pub sets : length k.sets.items ≡ count
  pub shapes : length k.shapes.items ≡ length t.tables
  pub hulls : length k.hulls.items ≡ length t.tables

module _ (t : Tables) (cs : List (Placed Constructor)) (old : Known) where
  -- The table's shape and hull are put, by those of the tables below.
  pub record IsNext (new : Known) (table : ℕ) : Type 0 where
    pub shapes_are : shapes_known new
        ≡ set (shapes_known old) table (of_table (map (ctor_shape t cs (shapes_known old)) (constructors_of t table)))
    pub hull : Option Cube
    pub hulls_are : new.hulls.items ≡ set old.hulls.items table hull
    pub is_hull : IsHullOrNone (λ x. Any (λ i. CtorHolds t cs (shapes_known old) old.hulls.items i x) (constructors_of t table)) hull
    pub sound : AllByRecursion (λ i. CtorTells t cs (shapes_known old) old.hulls.items i None) (constructors_of t table)
    pub have_sets : AllByRecursion (IfSetAt t cs (shapes_known old) old.hulls.items new.sets.items) (constructors_of t table)
    pub keeps : (i : ℕ) → IsSetAt t cs (shapes_known old) old.hulls.items old.sets.items i
        → IsSetAt t cs (shapes_known old) old.hulls.items new.sets.items i

  -- It is the first constructor of the table with a fault.
  pub record IsFirstOf (table ctor : ℕ) (f : Fault) : Type 0 where
    pub earlier : List ℕ
    pub later : List ℕ
    pub numbers_are : constructors_of t table ≡ earlier ++ ctor ∷ later
    pub sound : AllByRecursion (λ i. CtorTells t cs (shapes_known old) old.hulls.items i None) earlier
    pub tells : CtorTells t cs (shapes_known old) old.hulls.items ctor (Some f)

-- ---- what was made of blocks

-- These are the tables, with the shapes and the hulls that are known.
pub record IsBelow (t : Tables) (k : Known) (b : Below) : Type 0 where
  pub tables : b.tables.now ≡ t
  pub shapes : b.shapes.now ≡ k.shapes.items
  pub hulls : b.hulls.now ≡ k.hulls.items

-- What was made of the blocks round these constructors is right by what is known.
abbrev pub IsKept : Tables → List Unfolded → Known → Type 0
IsKept t us k = (b : Below) → IsBelow t k b → AreRightOf b k.lists us k.made
