-- meaning: what the patterns of all tables are read with, and the points of constructors.
use Rattle.std.specs.Prelude.{◌≡◌, ℕ, List, Option, Some, slice_get}
use Rattle.std.specs.List.{AllByRecursion}
use Rattle.sl_ast.specs.Trees.{Constructor}
use Rattle.sl_ast.specs.Unfolding.{Placed}
use Rattle.sl_shape_constraints.specs.Sets.{IsUnionOf}
use Rattle.sl_cube.specs.declared.Cube.{Cube}
use Rattle.sl_cube.specs.declared.Point.{Point}
use Rattle.sl_base_graphs.specs.Heights.{AreHeights}
use Rattle.sl_cube_sets.specs.declared.CubeSet.{CubeSet}
use Rattle.sl_shape.specs.PatternShapes.{Shapes}
use Rattle.sl_shape.specs.Tables.{CtorHolds, IsFirstFault, IsTable, order_by, table_graph}
use Rattle.sl_shape.specs.declared.faults.Fault.{Fault}
use Rattle.sl_spec.specs.declared.tables.Tables.{Tables}

-- What the patterns of all tables are read with, where no constructor has a fault.
pub record AreRead (t : Tables) (cs : List (Placed Constructor)) (shapes : Shapes)
    (hulls : List (Option Cube)) : Type 0 where
  pub heights : List ℕ
  pub are_heights : AreHeights (table_graph t cs) heights
  pub tables : AllByRecursion (IsTable t cs shapes hulls) (order_by t heights)

module _ (t : Tables) (cs : List (Placed Constructor)) where
  -- No constructor has a fault.
  pub record IsShaped : Type 0 where
    pub shapes : Shapes
    pub hulls : List (Option Cube)
    pub read : AreRead t cs shapes hulls

  -- The constructor of this number has the point.
  pub record HasPoint (i : ℕ) (p : Point) : Type 0 where
    pub shapes : Shapes
    pub hulls : List (Option Cube)
    pub read : AreRead t cs shapes hulls
    pub holds : CtorHolds t cs shapes hulls i p

  -- The set of the constructor of this number is there, and has the constructor's points.
  pub record HasItsSet (sets : List CubeSet) (i : ℕ) : Type 0 where
    pub set : CubeSet
    pub set_is : slice_get sets i ≡ Some set
    pub union : IsUnionOf (HasPoint i) set.cubes.items

  -- Some constructor is the first with a fault.
  abbrev pub HasFirstFault : Type 0
  HasFirstFault = (i : ℕ) × (f : Fault) × IsFirstFault t cs i f
