-- meaning: the first fault of the pattern of a constructor.
use Rattle.std.specs.Prelude.{◌≡◌, ◌⊎◌, ℕ, ◌≤◌, ◌<◌, List, Option, Some, None}
use Rattle.sl_ast.specs.Trees.{Pattern, bare, constraint, group, ellipsis, joined}
use Rattle.sl_ast.specs.declared.patterns.PatternOp.{PatternOp}
use Rattle.sl_ast.specs.declared.patterns.PatternOp.TheVariants.{And, Then, Or}
use Rattle.sl_shape_constraints.specs.Sets.{IsNowhere}
use Rattle.sl_shape_constraints.specs.Windows.{IsEnd}
use Rattle.sl_cube.specs.Points.{InRange}
use Rattle.sl_cube.specs.declared.Cube.{Cube}
use Rattle.sl_cube.specs.declared.Point.{Point}
use Rattle.sl_shape_patterns.specs.Counts.{HasPatternCount}
use Rattle.sl_shape_patterns.specs.Patterns.{PatternHolds, told}
use Rattle.sl_shape_patterns.specs.Windows.{PatternConstrains}
use Rattle.sl_shape.specs.PatternShapes.{pattern_bytes, reading, shape_of}
use Rattle.sl_shape.specs.declared.faults.Fault.{Fault}
use Rattle.sl_shape.specs.declared.faults.Fault.TheVariants as fault
use Rattle.sl_shape_tokens.specs.Shapes.{Shape}
use Rattle.sl_spec.specs.declared.tables.Tables.{Tables}

-- What is told first: by the first one, and, where that tells nothing, by the second one.
abbrev pub OrElse : (Option Fault → Type 0) → (Option Fault → Type 0) → Option Fault → Type 0
OrElse First Second None = First None × Second None
OrElse First Second (Some f) = First (Some f) ⊎ (First None × Second (Some f))

-- the greatest number of cubes of a constructor
abbrev pub most_cubes : ℕ
most_cubes = 1024

-- the greatest number of bytes that a constructor looks at
abbrev pub most_window : ℕ
most_window = 16

-- There are too many cubes, or no fault.
abbrev pub CountTells : Tables → Pattern → Option Fault → Type 0
CountTells t p None = (n : ℕ) × HasPatternCount t p n × (n ≤ most_cubes)
CountTells t p (Some f) =
    (n : ℕ) × HasPatternCount t p n × (most_cubes < n) × (f ≡ fault.TooManyCubes (told n))

-- The tokens of two patterns differ, where they have no shape together.
abbrev pub DifferTells : Option Shape → Option Fault → Type 0
DifferTells None found = found ≡ Some fault.TokensDiffer
DifferTells (Some shape) found = found ≡ None

module _ (t : Tables) (shapes : List Shape) (hulls : List (Option Cube)) where
  abbrev pub PatternHoldsAt : Pattern → Point → Type 0
  PatternHoldsAt p x = PatternHolds (reading t shapes hulls) p 0 x

  -- Behind a pattern without a fixed number of bytes there stands one that holds everywhere.
  abbrev pub BehindTells : Option ℕ → Pattern → Option Fault → Type 0
  BehindTells (Some bytes) q found = found ≡ None
  BehindTells None q None = (x : Point) → InRange x → PatternHoldsAt q x
  BehindTells None q (Some f) =
      (f ≡ fault.InteriorEllipsis) × ((x : Point) × InRange x × (PatternHoldsAt q x → ⊥))

  -- the fault of two joined patterns, which have none themselves
  abbrev pub JoinTells : PatternOp → Pattern → Pattern → Option Fault → Type 0
  JoinTells And p q found = DifferTells (shape_of t shapes (joined And p q)) found
  JoinTells Then p q found = BehindTells (pattern_bytes t shapes p) q found
  JoinTells Or p q found = DifferTells (shape_of t shapes (joined Or p q)) found

  -- the first fault of shapes, from the leaves upwards, and on the left before the right
  unfoldable pub ShapeTells : Pattern → Option Fault → Type 0
  ShapeTells (bare name) found = found ≡ None
  ShapeTells (constraint name relation e) found = found ≡ None
  ShapeTells (group p) found = ShapeTells p found
  ShapeTells (ellipsis p) found = ShapeTells p found
  ShapeTells (joined op p q) found =
      OrElse (ShapeTells p) (OrElse (ShapeTells q) (JoinTells op p q)) found

  -- The last byte that the pattern looks at is too far behind, or there is no fault.
  abbrev pub WindowTells : Pattern → Option Fault → Type 0
  WindowTells p None =
      (n : ℕ) × IsEnd (PatternConstrains (reading t shapes hulls) p 0) n × (n ≤ most_window)
  WindowTells p (Some f) = (n : ℕ) × IsEnd (PatternConstrains (reading t shapes hulls) p 0) n
      × (most_window < n) × (f ≡ fault.WindowTooLong (told n))

  -- The pattern holds of no point, or there is no fault.
  abbrev pub PointTells : Pattern → Option Fault → Type 0
  PointTells p None = (x : Point) × InRange x × PatternHoldsAt p x
  PointTells p (Some f) = (f ≡ fault.Impossible) × IsNowhere (PatternHoldsAt p)

  -- the first fault of the pattern of a constructor
  abbrev pub PatternTells : Pattern → Option Fault → Type 0
  PatternTells p found = OrElse (CountTells t p)
      (OrElse (ShapeTells p) (OrElse (WindowTells p) (PointTells p))) found
