-- Sets have one report at most, and none where they are settled.
use Rattle.std.proofs.Common.{◌≡◌, ℕ, ◌<◌, List, refl, sym, ap, ◌∙◌, subst, inl, inr, arith}
use Rattle.std.specs.Prelude.{slice_get}
use Rattle.std.proofs.lemmas.Bool.{cases_order}
use Rattle.sl_cube.specs.Points.{NotAfter}
use Rattle.sl_cube.specs.declared.Point.{Point}
use Rattle.sl_cube_sets.specs.Reports.{DifferAs, IsReport}
use Rattle.sl_cube_sets.specs.Sets.{IsFirstPair, IsLeastWhere, IsSettled, IsUnsettledAt}
use Rattle.sl_cube_sets.specs.declared.report.Apart.{Apart}
use Rattle.sl_cube_sets.specs.declared.report.Apart.TheVariants.{Same, Two}
use Rattle.sl_cube_sets.specs.declared.report.Report.{Report}

-- numbers of which neither is less
pub neither_less : (i k : ℕ) → (i < k → ⊥) → (k < i → ⊥) → i ≡ k
neither_less i k not_less not_more = elim (cases_order i k) [
  | inl same ↦ same
  | inr other ↦ elim other [
    | inl less ↦ absurd (not_less less)
    | inr more ↦ absurd (not_more more)
  ]
]

both_ways : (p q : Point) → NotAfter p q → NotAfter q p → p ≡ q
both_ways p q (inl h) (inl k) = absurd (omega (arith, h, k))
both_ways p q (inl h) (inr k) = absurd (omega (arith, h, k.0))
both_ways p q (inr h) (inl k) = absurd (omega (arith, h.0, k))
both_ways p q (inr h) (inr k) =
    let same : p.context ≡ q.context = omega (arith, h.1, k.1) in
    λ i. record { bytes = h.0 i; context = same i }

pub least_is_one : (holds : Point → Type 0) (p q : Point) → IsLeastWhere holds p → IsLeastWhere holds q → p ≡ q
least_is_one holds p q h k = both_ways p q (h.least q k.in_range k.here) (k.least p h.in_range h.here)

report_made : (r q : Report) → r.both ≡ q.both → r.first ≡ q.first → r.second ≡ q.second → r.apart ≡ q.apart → r ≡ q
report_made r q both first second apart = λ i. record { both = both i; first = first i; second = second i; apart = apart i }

module _ {X : Type 0} (has : X → Point → Type 0) (xs : List X) where
  pub first_pair_is_one : (p : Point) (i j k l : ℕ) → IsFirstPair has xs p i j → IsFirstPair has xs p k l → (i ≡ k) × (j ≡ l)
  first_pair_is_one p i j k l h g =
      let same : i ≡ k = neither_less i k (λ less. g.none_before i j (inl less) h.here) (λ more. h.none_before k l (inl more) g.here) in (
        same,
        neither_less j l (λ less. g.none_before i j (inr (same, less)) h.here) (λ more. h.none_before k l (inr (sym same, more)) g.here),
      )

  pub apart_is_one : (a b : X) (x y : Apart) → DifferAs has a b x → DifferAs has a b y → x ≡ y
  apart_is_one a b Same Same h g = refl
  apart_is_one a b Same (Two p q) h g = absurd (g.0.here.1 (h.0 p g.0.in_range g.0.here.0))
  apart_is_one a b (Two p q) Same h g = absurd (h.0.here.1 (g.0 p h.0.in_range h.0.here.0))
  apart_is_one a b (Two p q) (Two r s) h g =
      let one : p ≡ r = least_is_one (λ z. has a z × (has b z → ⊥)) p r h.0 g.0 in
      let other : q ≡ s = least_is_one (λ z. has b z × (has a z → ⊥)) q s h.1 g.1 in
      λ i. Two (one i) (other i)

  -- Sets have one report at most.
  pub report_is_one : (r q : Report) → IsReport has xs r → IsReport has xs q → r ≡ q
  report_is_one r q h g =
      let both : r.both ≡ q.both = least_is_one (IsUnsettledAt has xs) r.both q.both h.point g.point in
      let pair = first_pair_is_one r.both r.first r.second q.first q.second h.pair
      (subst (λ (p : Point). IsFirstPair has xs p q.first q.second) (sym both) g.pair) in
      let a = h.pair.here.first in
      let b = h.pair.here.second in
      let apart : r.apart ≡ q.apart = apart_is_one a.0 b.0 r.apart q.apart (h.apart a.0 b.0 a.1 b.1)
      (g.apart a.0 b.0 (ap (slice_get xs) (sym pair.0) ∙ a.1) (ap (slice_get xs) (sym pair.1) ∙ b.1)) in
      report_made r q both pair.0 pair.1 apart

  -- Settled sets have no report.
  pub settled_has_no_report : (told : Report) → IsSettled has xs → IsReport has xs told → ⊥
  settled_has_no_report told settled report =
      let there = report.point.here in
      let best = settled told.both report.point.in_range there.one there.one_has in
      there.no_choice best.0 best.1
