-- meaning: the hull of a table.
use Rattle.std.specs.Prelude.{◌≡◌, ◌↔◌, ℕ, List, Option, MatchOption}
use Rattle.std.specs.Int.{bit_at}
use Rattle.std.specs.List.{Any}
use Rattle.sl_shape_constraints.specs.Sets.{IsNowhere}
use Rattle.sl_cube.specs.Points.{InRange, IsIn}
use Rattle.sl_cube.specs.declared.Cube.{Cube}
use Rattle.sl_cube.specs.declared.Point.{Point}
use Rattle.sl_cube_sets.specs.Sets.{HasAt}
use Rattle.sl_cube_sets.specs.Unions.{has_set}
use Rattle.sl_cube_sets.specs.declared.CubeSet.{CubeSet}

-- The point has each bit that all points have for which this holds.
abbrev pub SharedWhere : (Point → ℕ) → (Point → Type 0) → Point → Type 0
SharedWhere part P q = (i bit : ℕ)
    → ((p : Point) → InRange p → P p → bit_at (part p) i ≡ bit) → bit_at (part q) i ≡ bit

-- The points of the hull agree with each bit on which all points agree for which this holds.
abbrev pub IsHullWhere : (Point → Type 0) → Cube → Type 0
IsHullWhere P h = (q : Point) → InRange q
    → IsIn q h ↔ (SharedWhere (λ p. p.bytes) P q × SharedWhere (λ p. p.context) P q)

-- This hull; none where it holds of no point.
abbrev pub IsHullOrNone : (Point → Type 0) → Option Cube → Type 0
IsHullOrNone P found = MatchOption found (IsNowhere P) (IsHullWhere P)

-- The set of some of the constructors has the point.
abbrev pub TableHas : List CubeSet → List ℕ → Point → Type 0
TableHas sets constructors p = Any (λ number. HasAt has_set sets p number) constructors
