-- Hulls of the same points are alike: they have the same points, and fix a bit of the same bytes.
use Rattle.std.proofs.Common.{◌≡◌, ◌↔◌, ℕ, ◌<◌, ◌^◌, Option, Some, None, refl, subst, arith}
use Rattle.std.specs.Int.{bit_at}
use Rattle.sl_cube.specs.Points.{InRange, IsIn}
use Rattle.sl_cube.specs.declared.Cube.{Cube}
use Rattle.sl_cube.specs.declared.Point.{Point}
use Rattle.sl_cube.proofs.BitLemmas.{fixed_by_all, least_agrees}
use Rattle.sl_shape_patterns.specs.Hulls.{IsHullOrNone, IsHullWhere}
use Rattle.sl_shape_patterns.specs.Patterns.{InHull}
use Rattle.sl_shape_patterns.specs.Windows.{FixesByte}

-- They have the same points, and fix a bit of the same bytes.
pub record AreHullsAlike (a b : Option Cube) : Type 0 where
  pub has : (p : Point) → InRange p → InHull a p ↔ InHull b p
  pub fixes : (i : ℕ) → FixesByte a i ↔ FixesByte b i

pub alike_itself : (a : Option Cube) → AreHullsAlike a a
alike_itself a = record { has = λ p range. (λ h. h, λ h. h); fixes = λ i. (λ h. h, λ h. h) }

pub alike_same : (a b : Option Cube) → a ≡ b → AreHullsAlike a b
alike_same a b e = subst (λ (o : Option Cube). AreHullsAlike a o) e (alike_itself a)

-- ---- two cubes with the same points

module _ (h k : Cube) (from : (p : Point) → InRange p → IsIn p k → IsIn p h) (x : Point) (range : InRange x) (inside : IsIn x k) where
  value_fits : k.value < 2 ^ 128
  value_fits = let least = least_agrees k.mask k.value x.bytes k.within inside.0 in let r = range.0 in omega (arith, least, r)

  context_fits : k.ctx_value < 2 ^ 64
  context_fits = let least = least_agrees k.ctx_mask k.ctx_value x.context k.ctx_within inside.1 in let r = range.1 in omega (arith, least, r)

  -- a bit that the outer cube fixes is fixed by the inner one
  fixed_in : (bit : ℕ) → bit < 128 → bit_at h.mask bit ≡ 1 → bit_at k.mask bit ≡ 1
  fixed_in bit below on = (fixed_by_all 128 k.mask k.value bit (bit_at h.value bit) value_fits k.within below (λ y small agrees.
      let p : Point = record { bytes = y; context = k.ctx_value } in
      (from p (small, context_fits) (agrees, λ i fixed. refl)).0 bit on)).0

  byte_in : (i : ℕ) → FixesByte (Some h) i → FixesByte (Some k) i
  byte_in i f = (f.0, f.1, fixed_in f.0 f.1 f.2, f.3)

module _ (P : Point → Type 0) (h k : Cube) (a : IsHullWhere P h) (b : IsHullWhere P k) where
  both_have : (p : Point) → InRange p → IsIn p h → IsIn p k
  both_have p range inside = (b p range).1 ((a p range).0 inside)

has_own : (P : Point → Type 0) (h : Cube) → IsHullWhere P h → (x : Point) → InRange x → P x → IsIn x h
has_own P h is x range holds = (is x range).1 (λ i bit all. all x range holds, λ i bit all. all x range holds)

-- two hulls of points of which there are some
pub hulls_alike : (P : Point → Type 0) (x : Point) → InRange x → P x → (a b : Option Cube) → IsHullOrNone P a → IsHullOrNone P b → AreHullsAlike a b
hulls_alike P x range holds None b u v = absurd (u x range holds)
hulls_alike P x range holds (Some h) None u v = absurd (v x range holds)
hulls_alike P x range holds (Some h) (Some k) u v = record {
  has = λ p r. (both_have P h k u v p r, both_have P k h v u p r);
  fixes = λ i. (
    byte_in h k (both_have P k h v u) x range (has_own P k v x range holds) i,
    byte_in k h (both_have P h k u v) x range (has_own P h u x range holds) i,
  );
}
