-- law: what a pattern asks of what it is read with.
use Rattle.std.specs.Prelude.{◌≡◌, ◌↔◌, ℕ, List, Option}
use Rattle.sl_ast.specs.Trees.{Pattern, bare, constraint, group, ellipsis, joined}
use Rattle.sl_cube.specs.declared.Cube.{Cube}
use Rattle.sl_cube.specs.declared.Point.{Point}
use Rattle.sl_shape_patterns.specs.Patterns.{PatternHolds, Reading, hull_named}
use Rattle.sl_shape_patterns.specs.Windows.{PatternConstrains}
use Rattle.sl_spec.specs.declared.tables.Tables.{Tables}

module _ (a b : Reading) where
  -- Both tell the same of the hulls of the pattern's tables, and of the bytes of its left sides.
  unfoldable pub AreAlike : Pattern → Type 0
  AreAlike (bare name) = hull_named a name ≡ hull_named b name
  AreAlike (constraint name relation e) = Unit {0}
  AreAlike (group x) = AreAlike x
  AreAlike (ellipsis x) = AreAlike x
  AreAlike (joined op x y) = AreAlike x × AreAlike y × (a.bytes x ≡ b.bytes x)

  -- The pattern holds at the same points, and looks at the same bytes.
  abbrev pub IsReadAlike : Pattern → ℕ → Type 0
  IsReadAlike x place = ((p : Point) → PatternHolds a x place p ↔ PatternHolds b x place p)
      × ((i : ℕ) → PatternConstrains a x place i ↔ PatternConstrains b x place i)

abbrev pub reading : Tables → (Pattern → Option ℕ) → List (Option Cube) → Reading
reading t bytes hulls = record { tables = t; bytes = bytes; hulls = hulls }

-- A pattern asks the hulls of its own tables and the bytes of its own left sides alone.
abbrev pub EachAsksItsOwn : Type 0
EachAsksItsOwn = (t : Tables) (bytes others : Pattern → Option ℕ) (hulls more : List (Option Cube))
    (x : Pattern) (place : ℕ) → AreAlike (reading t bytes hulls) (reading t others more) x
    → IsReadAlike (reading t bytes hulls) (reading t others more) x place
