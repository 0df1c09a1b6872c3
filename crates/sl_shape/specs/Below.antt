-- step: what is known of the tables below, and the shapes that are added.
use Rattle.std.specs.Prelude.{◌≡◌, ℕ, List, Some, None, map}
use Rattle.std.specs.List.{AllByRecursion}
use Rattle.sl_ast.specs.Trees.{Pattern, joined}
use Rattle.sl_ast.specs.declared.patterns.PatternOp.{PatternOp}
use Rattle.sl_shape.specs.Faults.{JoinTells, ShapeTells}
use Rattle.sl_shape.specs.PatternShapes.{shape_of, token_sizes}
use Rattle.sl_shape.specs.declared.below.Below.{Below}
use Rattle.sl_shape.specs.declared.below.TokenLists.{TokenLists}
use Rattle.sl_shape_tokens.specs.Bytes.{Knows}
use Rattle.sl_shape_tokens.specs.Lists.{IsThere, Keeps, seen}
use Rattle.sl_shape_tokens.specs.Shapes.{Shape}
use Rattle.sl_shape_tokens.specs.declared.shapes.Shape as code

-- the shapes of the tables
abbrev pub shapes_in : Below → TokenLists → List Shape
shapes_in b l = map (seen l.all) b.shapes.now

-- The bytes of the first lists are known, by the sizes of the tokens.
pub record AreSized (b : Below) (l : TokenLists) : Type 0 where
  pub sizes : l.bytes.sizes.items ≡ token_sizes b.tables.now
  pub old : List (List ℕ)
  pub knows : Knows l.bytes old
  pub keeps : Keeps old l.all

-- These are the shapes of the tables, and their lists are there.
pub record Shows (b : Below) (l : TokenLists) (shapes : List Shape) : Type 0 where
  pub there : AllByRecursion (IsThere l.all) b.shapes.now
  pub are : shapes_in b l ≡ shapes

-- There is this shape now, and what was there stays.
pub record Gets (b : Below) (shapes : List Shape) (old new : TokenLists) (want : Shape) (s : code.Shape) : Type 0 where
  pub shows : Shows b new shapes
  pub keeps : Keeps old.all new.all
  pub there : IsThere new.all s
  pub is : seen new.all s ≡ want

-- There is the shape of the pattern, and it has no fault.
pub record IsShaped (b : Below) (shapes : List Shape) (old new : TokenLists) (p : Pattern) (s : code.Shape) : Type 0 where
  pub want : Shape
  pub gets : Gets b shapes old new want s
  pub shape : shape_of b.tables.now shapes p ≡ Some want
  pub sound : ShapeTells b.tables.now shapes b.hulls.now p None

-- The shape of a side of a joined pattern is there.
pub record IsSide (b : Below) (l : TokenLists) (shapes : List Shape) (p : Pattern) (s : code.Shape) : Type 0 where
  pub there : IsThere l.all s
  pub shape : shape_of b.tables.now shapes p ≡ Some (seen l.all s)

-- There is the shape of the joined pattern, and joining its sides is no fault.
pub record IsJoined (b : Below) (shapes : List Shape) (old new : TokenLists) (op : PatternOp) (p q : Pattern) (s : code.Shape) : Type 0 where
  pub want : Shape
  pub gets : Gets b shapes old new want s
  pub shape : shape_of b.tables.now shapes (joined op p q) ≡ Some want
  pub sound : JoinTells b.tables.now shapes b.hulls.now op p q None
