-- Where a pattern with a shape holds, by the cubes that are read.
use Rattle.std.proofs.Common.{◌≡◌, List, Option, Some, subst}
use Rattle.sl_ast.specs.Trees.{Pattern}
use Rattle.sl_shape_constraints.specs.Sets.{IsCubeOf, IsUnionOf}
use Rattle.sl_cube.specs.Points.{InRange}
use Rattle.sl_cube.specs.Cubes.{Covers, IsLeastOutside}
use Rattle.sl_cube.specs.declared.Cube.{Cube}
use Rattle.sl_cube.specs.declared.Point.{Point}
use Rattle.sl_shape_patterns.specs.Patterns.{PatternHolds}
use Rattle.sl_shape.specs.Extents.{extent_bytes, extent_of}
use Rattle.sl_shape.specs.Faults.{PatternHoldsAt}
use Rattle.sl_shape.specs.HeadsMade.{by_extents}
use Rattle.sl_shape.specs.PatternShapes.{Shapes, pattern_bytes, shape_of}
use Rattle.sl_shape.proofs.AlikeLemmas.{alike_shaped, holds_alike}
use Rattle.sl_shape_tokens.specs.Shapes.{Shape}
use Rattle.sl_spec.specs.declared.tables.Tables.{Tables}

module _ (t : Tables) (shapes : Shapes) (hulls : List (Option Cube)) (p : Pattern) (s : Shape) (shape : shape_of t shapes p ≡ Some s)
    (found : Shapes) (are : found ≡ shapes) (cubes : List Cube) where
  pub union_shaped : IsUnionOf (PatternHolds (by_extents t found hulls) p 0) cubes → IsUnionOf (PatternHoldsAt t shapes hulls p) cubes
  union_shaped u = λ x range.
      let here = subst (λ (ss : Shapes). IsUnionOf (PatternHolds (by_extents t ss hulls) p 0) cubes) are u x range in
      let same = holds_alike t (λ q. extent_bytes (extent_of t shapes q)) (pattern_bytes t shapes) hulls hulls p (alike_shaped t shapes hulls p s shape) 0 x range in
      (λ i. same.0 (here.0 i), λ h. here.1 (same.1 h))

  module _ (u : IsUnionOf (PatternHolds (by_extents t found hulls) p 0) cubes) (all : Cube) (every : IsCubeOf (λ _. Unit {0}) all) where
    pub everywhere_holds : Covers cubes all → (x : Point) → InRange x → PatternHoldsAt t shapes hulls p x
    everywhere_holds covers x range = (union_shaped u x range).0 (covers x range ((every x range).1 tt))

    pub elsewhere_fails : (x : Point) → IsLeastOutside x all cubes → (y : Point) × InRange y × (PatternHoldsAt t shapes hulls p y → ⊥)
    elsewhere_fails x outside = (x, outside.0.0, λ h. outside.0.2 ((union_shaped u x outside.0.0).1 h))
