-- The most specific of the sets that have a point.
use Rattle.std.proofs.Common.{◌≡◌, ℕ, ◌+◌, ◌<◌, ◌≤◌, IfSome, List, length, get_or, below_more, Option, Some, None, arith, sym, ◌∙◌, ap, refl, inl, inr, subst}
use Rattle.std.specs.List.{HoldsAt}
use Rattle.std.proofs.lemmas.Bool.{cases_eq}
use Rattle.std.proofs.lemmas.List.Elements.{at_read}
use Rattle.std.proofs.lemmas.Option.{same_Some}
use Rattle.sl_cube.specs.declared.Point.{Point}
use Rattle.sl_cube.specs.Points.{IsInSome}
use Rattle.sl_cube_marks.proofs.RestLemmas.{there_at}
use Rattle.sl_cube_marks.specs.Rests.{IsThere, IsBetter, FindsBest}
use Rattle.sl_cube_marks.specs.declared.narrowing.Rest.{Rest}
use Rattle.sl_cube_sets.proofs.WithinLemmas.{below_irrefl, below_trans}
use Rattle.sl_cube_sets.specs.Settled.{IsBest}
use Rattle.sl_cube_sets.specs.Unions.{IsBelow}
use Rattle.sl_cube_sets.specs.declared.CubeSet.{CubeSet}

-- ---- one set more

pub better_out : (sets : List CubeSet) (p : Point) (r : Rest) (found : Option ℕ) → (IsInSome r.cubes.items p → ⊥) → IsBetter sets p r found found
better_out sets p r found out = record { one = inl refl; old = λ m e. inl e; new = λ inside. absurd (out inside) }

pub better_first : (sets : List CubeSet) (p : Point) (r : Rest) → IsInSome r.cubes.items p → IsBetter sets p r None (Some r.set)
better_first sets p r inside = record { one = inr (refl, inside); old = λ m e. absurd (cc); new = λ h. inl refl }

pub better_below : (sets : List CubeSet) (p : Point) (r : Rest) (other : ℕ) → IsInSome r.cubes.items p → IsBelow sets r.set other
    → IsBetter sets p r (Some other) (Some r.set)
better_below sets p r other inside below = record {
  one = inr (refl, inside);
  old = λ m e. inr (inside, subst (λ (x : ℕ). IsBelow sets r.set x) (same_Some other m e) below);
  new = λ h. inl refl;
}

pub better_same : (sets : List CubeSet) (p : Point) (r : Rest) (other : ℕ) → (IsBelow sets r.set other → ⊥) → IsBetter sets p r (Some other) (Some other)
better_same sets p r other out = record { one = inl refl; old = λ m e. inl e; new = λ h. inr (other, refl, out) }

-- ---- the best of the first ones

-- two sets don't lie properly within each other
pub never_both : (sets : List CubeSet) (i j : ℕ) → IsBelow sets i j → IsBelow sets j i → ⊥
never_both sets i j a b = below_irrefl sets i (below_trans sets i j i a b)

-- Where the set is the best of all that are there, it is what was found.
abbrev Reaches : List CubeSet → List Rest → Point → Option ℕ → Rest → Type 0
Reaches sets left p found r = IsBest (IsBelow sets) (IsThere left p) r.set → IsInSome r.cubes.items p → found ≡ Some r.set

pub record BestFirst (sets : List CubeSet) (left : List Rest) (p : Point) (found : Option ℕ) (n : ℕ) : Type 0 where
  pub there : IfSome found (IsThere left p)
  pub first : (k : ℕ) → k < n → HoldsAt (Reaches sets left p found) left k

pub best_none : (sets : List CubeSet) (left : List Rest) (p : Point) → BestFirst sets left p None 0
best_none sets left p = record { there = tt; first = λ k below. absurd (omega arith) }

module _ (sets : List CubeSet) (left : List Rest) (p : Point) (found result : Option ℕ) (n : ℕ) (r : Rest) (below : n < length left) (is : r ≡ get_or left n r)
    (b : IsBetter sets p r found result) (f : BestFirst sets left p found n) where
  still_there : IfSome result (IsThere left p)
  still_there = elim b.one [
    | inl same ↦ subst (λ (o : Option ℕ). IfSome o (IsThere left p)) (sym same) f.there
    | inr new ↦ subst (λ (o : Option ℕ). IfSome o (IsThere left p)) (sym new.0) (there_at left n r p below is new.1)
  ]

  -- an earlier one that is the best stays
  stays : (s : ℕ) → IsBest (IsBelow sets) (IsThere left p) s → found ≡ Some s → result ≡ Some s
  stays s best e = elim (b.old s e) [
    | inl same ↦ same
    | inr lower ↦ elim (cases_eq r.set s) [
      | inl same ↦ absurd (below_irrefl sets s (subst (λ (x : ℕ). IsBelow sets x s) same lower.1))
      | inr other ↦ absurd (never_both sets s r.set (best.below r.set (there_at left n r p below is lower.0) other) lower.1)
    ]
  ]

  -- the new one is found where it is the best
  takes : Reaches sets left p result r
  takes best inside = elim (b.new inside) [
    | inl same ↦ same
    | inr old ↦
        let there : IsThere left p old.0 = subst (λ (o : Option ℕ). IfSome o (IsThere left p)) old.1 f.there in
        elim (cases_eq old.0 r.set) [
          | inl same ↦ elim b.one [ inl kept ↦ kept ∙ old.1 ∙ ap Some same | inr new ↦ new.0 ]
          | inr other ↦ absurd (old.2 (best.below old.0 there other))
        ]
  ]

  pub best_more : BestFirst sets left p result (n + 1)
  best_more = record {
    there = still_there;
    first = below_more (λ k. HoldsAt (Reaches sets left p result) left k) n
        (λ k lt d best inside. stays (get_or left k d).set best (f.first k lt d best inside))
        (at_read left (Reaches sets left p result) n r below is takes);
  }

pub best_all : (sets : List CubeSet) (left : List Rest) (p : Point) (found : Option ℕ) (n : ℕ) → length left ≤ n → BestFirst sets left p found n
    → FindsBest sets left p found
best_all sets left p found n all f = record {
  there = f.there;
  best = λ i b.
      let h = b.there in
      let lt : h.0 < n = omega (arith, h.2) in
      let at = subst (Reaches sets left p found) h.3 (f.first h.0 lt h.1) in
      at (subst (λ (x : ℕ). IsBest (IsBelow sets) (IsThere left p) x) (sym h.4.0) b) h.4.1 ∙ ap Some h.4.0;
}
