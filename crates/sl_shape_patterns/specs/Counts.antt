-- meaning: how many cubes a pattern may need.
use Rattle.std.specs.Prelude.{◌≡◌, ℕ, ◌+◌, ◌*◌, ◌≤◌, List, Option, Some, None, length}
use Rattle.sl_ast.specs.Trees.{Pattern, bare, constraint, group, ellipsis, joined}
use Rattle.sl_ast.specs.declared.patterns.PatternOp.{PatternOp}
use Rattle.sl_ast.specs.declared.patterns.PatternOp.TheVariants.{And, Then, Or}
use Rattle.sl_shape_constraints.specs.Counts.{HasCount}
use Rattle.sl_shape_constraints.specs.Values.{Constraint}
use Rattle.sl_cube.specs.declared.Cube.{Cube}
use Rattle.sl_shape_patterns.specs.Patterns.{constraint_of, told}
use Rattle.sl_spec.specs.declared.tables.Tables.{Tables}

-- The number is the count of the constraint; where there is none it is 1.
abbrev pub IfCount : Option Constraint → ℕ → Type 0
IfCount None n = n ≡ 1
IfCount (Some c) n = HasCount c n

abbrev pub joined_count : PatternOp → ℕ → ℕ → ℕ
joined_count And a b = a * b
joined_count Then a b = a * b
joined_count Or a b = a + b

module _ (t : Tables) where
  -- The number is the pattern's count.
  unfoldable pub HasPatternCount : Pattern → ℕ → Type 0
  HasPatternCount (bare name) n = n ≡ 1
  HasPatternCount (constraint name relation e) n = IfCount (constraint_of t name relation e) n
  HasPatternCount (group q) n = HasPatternCount q n
  HasPatternCount (ellipsis q) n = HasPatternCount q n
  HasPatternCount (joined op left right) n = (a : ℕ) × (b : ℕ)
      × HasPatternCount left a × HasPatternCount right b × (n ≡ joined_count op a b)

  -- The cubes are no more than the pattern's count.
  abbrev pub FitCount : Pattern → List Cube → Type 0
  FitCount p cubes = (count : ℕ) → HasPatternCount p count → length cubes ≤ count

-- Such a number is at least 1, and it is told up to 4,294,967,295.
abbrev pub IsTold : (ℕ → Type 0) → ℕ → Type 0
IsTold P shown = (n : ℕ) × P n × (1 ≤ n) × (shown ≡ told n)
