-- view: what is made of the patterns of blocks, where they have one.
use Rattle.std.specs.Global.{Vec}
use Rattle.std.specs.List.{AllByRecursion}
use Rattle.std.specs.Prelude.{◌≡◌, ℕ, List, Some, false}
use Rattle.sl_ast.specs.Trees.{Head, Pattern}
use Rattle.sl_shape_constraints.specs.Sets.{IsUnionOf}
use Rattle.sl_cube.specs.declared.Cube.{Cube}
use Rattle.sl_shape_patterns.specs.Counts.{FitCount, HasPatternCount, IsTold}
use Rattle.sl_shape_patterns.specs.Patterns.{PatternHolds, Reading}
use Rattle.sl_shape_patterns.specs.Windows.{IsWindow, PatternConstrains}
use Rattle.sl_spec.specs.Numbers.{is_number, made_of}
use Rattle.sl_spec.specs.declared.tables.Tables.{Tables}
use Rattle.sl_spec.specs.declared.unfolded.Around.{Around}

-- The number is told to be the count of the head's pattern.
abbrev pub IsHeadCount : Tables → Head → ℕ → Type 0
IsHeadCount t h n = (p : Pattern) → h.pattern ≡ Some p → IsTold (HasPatternCount t p) n

-- The number is told to be the window of the head's pattern.
abbrev pub IsHeadWindow : Reading → Head → ℕ → Type 0
IsHeadWindow r h n = (p : Pattern) → h.pattern ≡ Some p → IsWindow (PatternConstrains r p 0) n

-- The cubes have the points at which the head's pattern holds, and are no more than its count.
abbrev pub AreHeadCubes : Reading → Head → Vec Cube → Type 0
AreHeadCubes r h cubes = (p : Pattern) → h.pattern ≡ Some p
    → IsUnionOf (PatternHolds r p 0) cubes.items × FitCount r.tables p cubes.items

-- The number is that of none of the blocks.
abbrev pub IsElsewhere : ℕ → List Around → Type 0
IsElsewhere n blocks = AllByRecursion (λ a. is_number a.number n ≡ false) blocks

-- What was made of other blocks stays as it was.
abbrev pub KeepsOthers : {V : Type 0} → List Around → List (ℕ × V) → List (ℕ × V) → Type 0
KeepsOthers blocks old new = (n : ℕ) → IsElsewhere n blocks → made_of new n ≡ made_of old n
