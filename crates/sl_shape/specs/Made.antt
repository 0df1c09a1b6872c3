-- step: the set and the shape of a constructor.
use Rattle.std.specs.Prelude.{◌≡◌, ◌≤◌, List, Option, Some, None, length}
use Rattle.sl_ast.specs.Trees.{Pattern}
use Rattle.sl_shape_constraints.specs.Sets.{IsUnionOf}
use Rattle.sl_cube.specs.declared.Cube.{Cube}
use Rattle.sl_cube_sets.specs.declared.CubeSet.{CubeSet}
use Rattle.sl_shape.specs.Below.{Gets}
use Rattle.sl_shape.specs.Faults.{OrElse, PatternHoldsAt, PatternTells, PointTells, WindowTells, most_cubes}
use Rattle.sl_shape.specs.PatternShapes.{Shapes, shape_of}
use Rattle.sl_shape.specs.declared.below.Below.{Below}
use Rattle.sl_shape.specs.declared.below.TokenLists.{TokenLists}
use Rattle.sl_shape_tokens.specs.Shapes.{Shape}
use Rattle.sl_shape_tokens.specs.declared.shapes.Shape as code
use Rattle.sl_spec.specs.declared.tables.Tables.{Tables}

-- The set has the points at which the pattern holds; there are some, and none of the bytes is too far behind.
pub record IsSetOf (t : Tables) (shapes : Shapes) (hulls : List (Option Cube)) (p : Pattern) (set : CubeSet) : Type 0 where
  pub union : IsUnionOf (PatternHoldsAt t shapes hulls p) set.cubes.items
  pub sound : OrElse (WindowTells t shapes hulls p) (PointTells t shapes hulls p) None

-- There is the shape of a constructor's pattern, this is its set, of at most 1,024 cubes, and it has no fault.
pub record IsMade (b : Below) (shapes : Shapes) (old new : TokenLists) (p : Pattern) (s : code.Shape) (set : CubeSet) : Type 0 where
  pub want : Shape
  pub gets : Gets b shapes old new want s
  pub shape : shape_of b.tables.now shapes p ≡ Some want
  pub union : IsUnionOf (PatternHoldsAt b.tables.now shapes b.hulls.now p) set.cubes.items
  pub few : length set.cubes.items ≤ most_cubes
  pub sound : PatternTells b.tables.now shapes b.hulls.now p None
