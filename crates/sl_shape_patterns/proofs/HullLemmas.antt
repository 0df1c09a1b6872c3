-- The hull of the points of several sets, from the hulls of each.
use Rattle.std.proofs.Common.{◌≡◌, ℕ, ◌⊎◌, List, length, Option, None, Some, arith, sym, ◌∙◌, ap, subst, inl, inr}
use Rattle.std.specs.Prelude.{MatchOption, slice_get}
use Rattle.sl_cube.specs.Points.{InRange, IsInSome}
use Rattle.sl_cube.specs.declared.Cube.{Cube}
use Rattle.sl_cube.specs.declared.Point.{Point}
use Rattle.sl_shape_patterns.specs.Hulls.{IsHullOrNone, IsHullWhere, SharedWhere}
use Rattle.sl_shape_patterns.specs.Patterns.{InHull}
use Rattle.sl_cube_sets.specs.Sets.{HasAt}
use Rattle.sl_cube_sets.specs.Unions.{IsHullOf, has_set}
use Rattle.sl_cube_sets.specs.declared.CubeSet.{CubeSet}

-- The points of a hull, if there is one, share what those share for which this holds.
pub record Encloses (P : Point → Type 0) (found : Option Cube) : Type 0 where
  pub has : (p : Point) → InRange p → P p → InHull found p
  pub bytes : (p : Point) → InRange p → InHull found p → SharedWhere (λ q. q.bytes) P p
  pub context : (p : Point) → InRange p → InHull found p → SharedWhere (λ q. q.context) P p

pub encloses : (P : Point → Type 0) (found : Option Cube) → IsHullOrNone P found → Encloses P found
encloses P None none = record {
  has = λ p range holds. none p range holds;
  bytes = λ p range inside. absurd inside;
  context = λ p range inside. absurd inside;
}
encloses P (Some h) is = record {
  has = λ p range holds. (is p range).1 (λ i bit all. all p range holds, λ i bit all. all p range holds);
  bytes = λ p range inside. ((is p range).0 inside).0;
  context = λ p range inside. ((is p range).0 inside).1;
}

-- the hull of other points that are the same
hull_same : (P Q : Point → Type 0) (h : Cube) → ((p : Point) → InRange p → P p → Q p) → ((p : Point) → InRange p → Q p → P p)
    → IsHullWhere P h → IsHullWhere Q h
hull_same P Q h to from is = λ q range. (
  λ inside. let s = (is q range).0 inside in (
    λ i bit all. s.0 i bit (λ p r x. all p r (to p r x)),
    λ i bit all. s.1 i bit (λ p r x. all p r (to p r x)),
  ),
  λ s. (is q range).1 (
    λ i bit all. s.0 i bit (λ p r x. all p r (from p r x)),
    λ i bit all. s.1 i bit (λ p r x. all p r (from p r x)),
  ),
)

pub found_same : (P Q : Point → Type 0) (found : Option Cube) → ((p : Point) → InRange p → P p → Q p) → ((p : Point) → InRange p → Q p → P p)
    → IsHullOrNone P found → IsHullOrNone Q found
found_same P Q None to from none = λ p range holds. none p range (from p range holds)
found_same P Q (Some h) to from is = hull_same P Q h to from is

module _ (P Q : Point → Type 0) (a b : Option Cube) (x : Encloses P a) (y : Encloses Q b) where
  shared_on : (part : Point → ℕ) (q : Point) → ((p : Point) → InRange p → InHull a p → SharedWhere part P p)
      → ((p : Point) → InRange p → InHull b p → SharedWhere part Q p)
      → SharedWhere part (λ p. InHull a p ⊎ InHull b p) q → SharedWhere part (λ p. P p ⊎ Q p) q
  shared_on part q in_a in_b shared = λ i bit all. shared i bit (λ p range side. elim side [
    | inl u ↦ in_a p range u i bit (λ z r h. all z r (inl h))
    | inr v ↦ in_b p range v i bit (λ z r h. all z r (inr h))
  ])

  shared_back : (part : Point → ℕ) (q : Point) → SharedWhere part (λ p. P p ⊎ Q p) q → SharedWhere part (λ p. InHull a p ⊎ InHull b p) q
  shared_back part q shared = λ i bit all. shared i bit (λ p range side. elim side [
    | inl u ↦ all p range (inl (x.has p range u))
    | inr v ↦ all p range (inr (y.has p range v))
  ])

  -- the hull of two hulls is that of the points of both
  pub hull_either : (found : Option Cube) → IsHullOrNone (λ p. InHull a p ⊎ InHull b p) found → IsHullOrNone (λ p. P p ⊎ Q p) found
  hull_either None none = λ p range side. elim side [
    | inl u ↦ none p range (inl (x.has p range u))
    | inr v ↦ none p range (inr (y.has p range v))
  ]
  hull_either (Some h) is = λ q range. (
    λ inside. let s = (is q range).0 inside in (
      shared_on (λ p. p.bytes) q x.bytes y.bytes s.0,
      shared_on (λ p. p.context) q x.context y.context s.1,
    ),
    λ s. (is q range).1 (shared_back (λ p. p.bytes) q s.0, shared_back (λ p. p.context) q s.1),
  )

-- ---- the set of a constructor

pub set_found : (sets : List CubeSet) (number : ℕ) (set : CubeSet) (found : Option Cube) → slice_get sets number ≡ Some set
    → MatchOption found (length set.cubes.items ≡ 0) (IsHullOf set.cubes.items) → IsHullOrNone (λ p. HasAt has_set sets p number) found
set_found sets number set found e m = found_same (λ p. IsInSome set.cubes.items p) (λ p. HasAt has_set sets p number) found
    (λ p range inside. (set, e, inside)) (λ p range h. subst (λ (s : CubeSet). has_set s p) (one_value h.0 (sym h.1 ∙ e)) h.2) (own found m)
  where
    own : (found : Option Cube) → MatchOption found (length set.cubes.items ≡ 0) (IsHullOf set.cubes.items) → IsHullOrNone (λ p. IsInSome set.cubes.items p) found
    own None none = λ p range inside. omega (arith, none, inside.2)
    own (Some h) is = is

    one_value : (s : CubeSet) → Some s ≡ Some set → s ≡ set
    one_value s e = ap (λ (o : Option CubeSet). elim o [ Some y ↦ y | None ↦ set ]) e
