-- The set of a constructor that has a shape, and what is told of it.
use Rattle.std.proofs.Common.{◌≡◌, ℕ, ◌<◌, ◌≤◌, List, [], ◌∷◌, Option, Some, None, refl, ap, subst, arith}
use Rattle.std.specs.Prelude.{slice_get}
use Rattle.sl_ast.specs.Trees.{Pattern}
use Rattle.sl_shape_constraints.specs.Sets.{IsUnionOf}
use Rattle.sl_shape_constraints.specs.Windows.{IsEnd}
use Rattle.sl_cube.specs.Points.{InRange, IsIn, IsInSome}
use Rattle.sl_cube.specs.declared.Cube.{Cube}
use Rattle.sl_cube.specs.declared.Point.{Point}
use Rattle.sl_shape_patterns.specs.Patterns.{PatternHolds}
use Rattle.sl_shape_patterns.specs.Windows.{IsWindow, PatternConstrains}
use Rattle.sl_shape.specs.Extents.{extent_bytes, extent_of}
use Rattle.sl_shape.specs.Faults.{PointTells, WindowTells}
use Rattle.sl_shape.specs.HeadsMade.{by_extents}
use Rattle.sl_shape.specs.PatternShapes.{Shapes, pattern_bytes, shape_of}
use Rattle.sl_shape.specs.declared.faults.Fault.TheVariants as fault
use Rattle.sl_shape.proofs.AlikeLemmas.{alike_shaped, constrains_alike, end_same}
use Rattle.sl_shape.proofs.ExtentOfShapeLemmas.{inside_some}
use Rattle.sl_shape.proofs.HoldLemmas.{union_shaped}
use Rattle.sl_shape_tokens.specs.Shapes.{Shape}
use Rattle.sl_spec.specs.declared.tables.Tables.{Tables}

pub first_has : (cubes : List Cube) (f : Cube) → Some f ≡ slice_get cubes 0 → (x : Point) → IsIn x f → IsInSome cubes x
first_has [] f e x i = absurd cc
first_has (c ∷ cs) f e x i = (0, c, omega arith, refl, subst (λ (y : Cube). IsIn x y) (inside_some f c e) i)

module _ (t : Tables) (shapes : Shapes) (hulls : List (Option Cube)) (p : Pattern) (s : Shape) (shape : shape_of t shapes p ≡ Some s)
    (found : Shapes) (are : found ≡ shapes) where
  abbrev Found : ℕ → Type 0
  Found = PatternConstrains (by_extents t found hulls) p 0

  end_shaped : (n : ℕ) → IsEnd Found n → IsEnd (PatternConstrains (by_extents t shapes hulls) p 0) n
  end_shaped n e = subst (λ (ss : Shapes). IsEnd (PatternConstrains (by_extents t ss hulls) p 0) n) are e

  end_read : (n : ℕ) → IsEnd (PatternConstrains (by_extents t shapes hulls) p 0) n
      → IsEnd (PatternConstrains (record { tables = t; bytes = pattern_bytes t shapes; hulls = hulls }) p 0) n
  end_read n e = end_same (PatternConstrains (by_extents t shapes hulls) p 0) (PatternConstrains (record { tables = t; bytes = pattern_bytes t shapes; hulls = hulls }) p 0)
      (constrains_alike t (λ q. extent_bytes (extent_of t shapes q)) (pattern_bytes t shapes) hulls hulls p (alike_shaped t shapes hulls p s shape) 0) n e

  pub window_fine : (window : ℕ) → IsWindow Found window → window ≤ 16 → WindowTells t shapes hulls p None
  window_fine window w few = (w.0, end_read w.0 (end_shaped w.0 w.1), omega (arith, w.2))

  pub window_long : (window : ℕ) → IsWindow Found window → 16 < window → WindowTells t shapes hulls p (Some (fault.WindowTooLong window))
  window_long window w many = (w.0, end_read w.0 (end_shaped w.0 w.1), omega (arith, w.2), ap (λ n. fault.WindowTooLong n) w.2)

  module _ (cubes : List Cube) (u : IsUnionOf (PatternHolds (by_extents t found hulls) p 0) cubes) where
    pub point_found : (x : Point) → InRange x → IsInSome cubes x → PointTells t shapes hulls p None
    point_found x range inside = (x, range, (union_shaped t shapes hulls p s shape found are cubes u x range).0 inside)

    pub no_point : ((x : Point) → IsInSome cubes x → ⊥) → PointTells t shapes hulls p (Some fault.Impossible)
    no_point none = (refl, λ x range holds. none x ((union_shaped t shapes hulls p s shape found are cubes u x range).1 holds))
