-- A set is the choice where it has the point and no set below it does.
use Rattle.std.proofs.Common.{◌≡◌, ℕ, ◌+◌, ◌<◌, ◌≤◌, ◌⊎◌, List, [], ◌++◌, length, below_more, Some, None, sym, ◌∙◌, subst, inl, inr, arith}
use Rattle.std.specs.Prelude.{slice_get}
use Rattle.std.proofs.lemmas.Bool.{cases_eq}
use Rattle.std.proofs.lemmas.List.Elements.{Contains-append_left, Contains-append_right, Contains-append_cases}
use Rattle.std.proofs.lemmas.Option.{same_Some, slice_get_within}
use Rattle.sl_asm_region.specs.Left.{IsLeft, IsLeftAt}
use Rattle.sl_asm_region.specs.Regions.{AreBelow, IsChoiceRegion, IsOvertaken}
use Rattle.sl_cube.specs.Points.{InRange, IsInSome}
use Rattle.sl_cube.specs.declared.Cube.{Cube}
use Rattle.sl_cube.specs.declared.Point.{Point}
use Rattle.sl_cube_sets.proofs.WithinLemmas.{below_irrefl, below_trans}
use Rattle.sl_cube_sets.specs.Sets.{HasAt, IsChoice, IsSettled, LiesBelow}
use Rattle.sl_cube_sets.specs.Unions.{has_set}
use Rattle.sl_cube_sets.specs.declared.CubeSet.{CubeSet}

-- ---- points of two lists of cubes

in_left : (xs ys : List Cube) (p : Point) → IsInSome xs p → IsInSome (xs ++ ys) p
in_left xs ys p h = let there = Contains-append_left xs ys h.1 (h.0, h.2, h.3) in (there.0, h.1, there.1, there.2, h.4)

in_right : (xs ys : List Cube) (p : Point) → IsInSome ys p → IsInSome (xs ++ ys) p
in_right xs ys p h = let there = Contains-append_right xs ys h.1 (h.0, h.2, h.3) in (there.0, h.1, there.1, there.2, h.4)

in_either : (xs ys : List Cube) (p : Point) → IsInSome (xs ++ ys) p → IsInSome xs p ⊎ IsInSome ys p
in_either xs ys p h = elim (Contains-append_cases xs ys h.1 (h.0, h.2, h.3)) [
  | inl a ↦ inl (a.0, h.1, a.1, a.2, h.4)
  | inr b ↦ inr (b.0, h.1, b.1, b.2, h.4)
]

in_none : (p : Point) → IsInSome [] p → ⊥
in_none p h = omega (arith, h.2)

-- ---- the sets below one

pub record BelowFirst (sets : List CubeSet) (index n : ℕ) (cubes : List Cube) : Type 0 where
  pub sound : (p : Point) → IsInSome cubes p → IsOvertaken sets index p
  pub all : (k : ℕ) → k < n → LiesBelow has_set sets k index → (p : Point) → HasAt has_set sets p k → IsInSome cubes p

pub below_none : (sets : List CubeSet) (index : ℕ) → BelowFirst sets index 0 []
below_none sets index = record {
  sound = λ p h. absurd (in_none p h);
  all = λ k below under p has. absurd (omega (arith, below));
}

same_set : (sets : List CubeSet) (n : ℕ) (set : CubeSet) (p : Point) → slice_get sets n ≡ Some set → HasAt has_set sets p n → IsInSome set.cubes.items p
same_set sets n set p is has =
    subst (λ (x : CubeSet). IsInSome x.cubes.items p) (same_Some has.0 set (sym has.1 ∙ is)) has.2

pub below_more_cubes : (sets : List CubeSet) (index n : ℕ) (cubes : List Cube) (set : CubeSet) → slice_get sets n ≡ Some set
    → LiesBelow has_set sets n index → BelowFirst sets index n cubes → BelowFirst sets index (n + 1) (cubes ++ set.cubes.items)
below_more_cubes sets index n cubes set is under f = record {
  sound = λ p h. elim (in_either cubes set.cubes.items p h) [
    | inl old ↦ f.sound p old
    | inr new ↦ record { lower = n; below = under; has_point = (set, is, new) }
  ];
  all = below_more (λ k. LiesBelow has_set sets k index → (p : Point) → HasAt has_set sets p k → IsInSome (cubes ++ set.cubes.items) p) n
      (λ k lt low p has. in_left cubes set.cubes.items p (f.all k lt low p has))
      (λ low p has. in_right cubes set.cubes.items p (same_set sets n set p is has));
}

pub below_more_none : (sets : List CubeSet) (index n : ℕ) (cubes : List Cube) → (LiesBelow has_set sets n index → ⊥)
    → BelowFirst sets index n cubes → BelowFirst sets index (n + 1) cubes
below_more_none sets index n cubes not f = record {
  sound = f.sound;
  all = below_more (λ k. LiesBelow has_set sets k index → (p : Point) → HasAt has_set sets p k → IsInSome cubes p) n f.all
      (λ low p has. absurd (not low));
}

pub below_all : (sets : List CubeSet) (index n : ℕ) (cubes : List Cube) → length sets ≤ n → BelowFirst sets index n cubes → AreBelow sets index cubes
below_all sets index n cubes all f = λ p. (
  f.sound p,
  λ h.
      let within = slice_get_within sets h.lower h.below.inner h.below.inner_is in
      f.all h.lower (omega (arith, within, all)) h.below p h.has_point,
)

-- ---- the choice

module _ (sets : List CubeSet) (index : ℕ) (p : Point) where
  not_overtaken : IsChoice has_set sets p index → IsOvertaken sets index p → ⊥
  not_overtaken choice h = elim (cases_eq h.lower index) [
    | inl e ↦ below_irrefl sets index (subst (λ (k : ℕ). LiesBelow has_set sets k index) e h.below)
    | inr ne ↦ below_irrefl sets index (below_trans sets index h.lower index (choice.below h.lower h.has_point ne) h.below)
  ]

  is_choice : IsSettled has_set sets → InRange p → HasAt has_set sets p index → (IsOvertaken sets index p → ⊥) → IsChoice has_set sets p index
  is_choice settled range has none =
      let best = settled p range index has in
      elim (cases_eq index best.0) [
        | inl e ↦ subst (λ (k : ℕ). IsChoice has_set sets p k) (sym e) best.1
        | inr ne ↦ absurd (none (record { lower = best.0; below = best.1.below index has ne; has_point = best.1.has_point }))
      ]

pub region_is : (sets : List CubeSet) (index : ℕ) (set : CubeSet) (below out : List Cube) → IsSettled has_set sets → slice_get sets index ≡ Some set
    → AreBelow sets index below → IsLeft set.cubes.items below out → IsChoiceRegion sets index out
region_is sets index set below out settled is under left = λ p range. (
  λ h.
      let at : IsLeftAt set.cubes.items below p = (left p range).0 h in
      is_choice sets index p settled range (set, is, at.here) (λ over. at.outside ((under p).1 over)),
  λ choice. (left p range).1 (record {
    here = same_set sets index set p is choice.has_point;
    outside = λ some. not_overtaken sets index p choice ((under p).0 some);
  }),
)

pub region_none : (sets : List CubeSet) (index : ℕ) → slice_get sets index ≡ None → IsChoiceRegion sets index []
region_none sets index past = λ p range. (
  λ h. absurd (in_none p h),
  λ choice.
      let has = choice.has_point in
      let clash : None ≡ Some has.0 = sym past ∙ has.1 in
      absurd cc,
)
