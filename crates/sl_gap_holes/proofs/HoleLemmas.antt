-- Holes as uncovered points.
use Rattle.std.proofs.Common.{◌≡◌, ℕ, ◌+◌, ◌-◌, ◌*◌, ◌%◌, ◌^◌, ◌<◌, ◌≤◌, List, Option, Some, None, arith, sym, ◌∙◌, refl, inl, inr, subst}
use Rattle.std.specs.Prelude.{slice_get}
use Rattle.std.specs.Int.{bit_at}
use Rattle.std.proofs.Math.Nat.{mod-lt}
use Rattle.std.proofs.lemmas.Bool.{cases_eq, cases_lt}
use Rattle.std.proofs.lemmas.Nat.{pow_pos}
use Rattle.std.proofs.lemmas.Nat.Bits.{bit_at_above, bit_at_cat_high, bit_at_cat_low, same_from_bits}
use Rattle.std.proofs.lemmas.Option.{same_Some}
use Rattle.sl_conflict.specs.Kept.{HasChoices}
use Rattle.sl_conflict.specs.declared.table_sets.TableSets.{TableSets}
use Rattle.sl_cube.specs.Cubes.{IsFound}
use Rattle.sl_cube.specs.Points.{InRange, IsInSome}
use Rattle.sl_cube.specs.declared.Cube.{Cube}
use Rattle.sl_cube.specs.declared.Point.{Point}
use Rattle.sl_cube_sets.proofs.WithinLemmas.{below_irrefl}
use Rattle.sl_cube_sets.specs.Sets.{IsChoice, IsLeastOf, IsLeastWhere}
use Rattle.sl_cube_sets.specs.Unions.{IsBelow, has_set}
use Rattle.sl_cube_sets.specs.declared.CubeSet.{CubeSet}
use Rattle.sl_cube_tails.specs.Tails.{IsCovered, IsUncoveredIn}
use Rattle.sl_cube_tails.specs.declared.covers.Cover.{Cover}
use Rattle.sl_gap_holes.proofs.WindowLemmas.{follows_bits}
use Rattle.sl_gap_holes.specs.Covered.{AreCovers, AreFollowers, AreTails, tail_of}
use Rattle.sl_gap_holes.specs.HolePoints.{HasHole, IsHoleAt, TellsHole}
use Rattle.sl_gap_holes.specs.Windows.{Follows}
use Rattle.sl_gap_tables.proofs.SetLemmas.{least_same, never_both}
use Rattle.sl_shape_constraints.proofs.FieldLemmas.{bit_at_below}

-- ---- a point and a tail together

lt_from_bits : (w x : ℕ) → ((i : ℕ) → w ≤ i → bit_at x i ≡ 0) → x < 2 ^ w
lt_from_bits w x none =
    let same : x ≡ x % 2 ^ w = same_from_bits x (x % 2 ^ w) (λ i. elim (cases_lt i w) [
      | inl lt ↦ sym (bit_at_below x w i lt)
      | inr from ↦ none i from ∙ sym (bit_at_above (x % 2 ^ w) w i (mod-lt x (pow_pos w)) from)
    ]) in
    subst (λ (n : ℕ). n < 2 ^ w) (sym same) (mod-lt x (pow_pos w))

-- the point behind, with this tail
abbrev joined : ℕ → Point → Point → Point
joined place p q = record { bytes = p.bytes % 2 ^ (128 - 8 * place) * 2 ^ (8 * place) + q.bytes; context = p.context }

module _ (place : ℕ) (near : place ≤ 15) (p q : Point) (p_range : InRange p) (small : q.bytes < 2 ^ (8 * place)) (none : q.context ≡ 0) where
  joined_range : InRange (joined place p q)
  joined_range =
      let k = 8 * place in
      let a = p.bytes % 2 ^ (128 - k) in (
        lt_from_bits 128 (a * 2 ^ k + q.bytes) (λ i from.
            bit_at_cat_high a k q.bytes i small (omega (arith, near, from)) ∙ bit_at_above a (128 - k) (i - k) (mod-lt p.bytes (pow_pos (128 - k))) (omega (arith, near, from))),
        p_range.1,
      )

  joined_follows : Follows place p (joined place p q)
  joined_follows =
      let k = 8 * place in
      let a = p.bytes % 2 ^ (128 - k) in (
        (follows_bits k p.bytes (a * 2 ^ k + q.bytes) (omega (arith, near)) joined_range.0).1 (λ i from below.
            bit_at_cat_high a k q.bytes i small from ∙ bit_at_below p.bytes (128 - k) (i - k) (omega (arith, near, from, below))),
        refl,
      )

  joined_tail : tail_of place (joined place p q) ≡ q
  joined_tail =
      let k = 8 * place in
      let a = p.bytes % 2 ^ (128 - k) in
      let e : (a * 2 ^ k + q.bytes) % 2 ^ k ≡ q.bytes = same_from_bits ((a * 2 ^ k + q.bytes) % 2 ^ k) q.bytes (λ i. elim (cases_lt i k) [
        | inl lt ↦ bit_at_below (a * 2 ^ k + q.bytes) k i lt ∙ bit_at_cat_low a k q.bytes i lt
        | inr from ↦ bit_at_above ((a * 2 ^ k + q.bytes) % 2 ^ k) k i (mod-lt (a * 2 ^ k + q.bytes) (pow_pos k)) from ∙ sym (bit_at_above q.bytes k i small from)
      ]) in
      λ i. record { bytes = e i; context = sym none i }

tail_range : (place : ℕ) (q : Point) → place ≤ 15 → InRange (tail_of place q)
tail_range place q near = (
  lt_from_bits 128 (q.bytes % 2 ^ (8 * place)) (λ i from. bit_at_above (q.bytes % 2 ^ (8 * place)) (8 * place) i (mod-lt q.bytes (pow_pos (8 * place))) (omega (arith, near, from))),
  pow_pos 64,
)

-- ---- holes

module _ (kept : TableSets) (set : ℕ) (cubes : List Cube) (place : ℕ) (near : place ≤ 15) (settled : HasChoices kept) (of : CubeSet)
    (at : slice_get kept.sets.items set ≡ Some of) (covers : List Cover) (tails : Cube)
    (are : AreCovers kept.sets.items set place cubes covers) (are_tails : AreTails place tails) where
  abbrev Uncovered : Point → Type 0
  Uncovered = IsUncoveredIn of.cubes.items tails covers

  -- the set is the choice where no set below it has the point
  choice_from : (p : Point) → InRange p → IsInSome of.cubes.items p
      → ((other : ℕ) → IsBelow kept.sets.items other set → IsChoice has_set kept.sets.items p other → ⊥) → IsChoice has_set kept.sets.items p set
  choice_from p range inside none =
      let one = settled p range set (of, at, inside) in
      elim (cases_eq one.0 set) [
        | inl same ↦ subst (λ (i : ℕ). IsChoice has_set kept.sets.items p i) same one.1
        | inr other ↦ absurd (none one.0 (one.1.below set (of, at, inside) (λ e. other (sym e))) one.1)
      ]

  hole_from : (p : Point) → InRange p → Uncovered p → HasHole kept set cubes place p
  hole_from p range u =
      let q = u.1.0 in
      let tail = (are_tails q u.1.1).0 u.1.2 in
      let next = joined place p q in
      let next_range = joined_range place near p q range tail.0 tail.1 in
      let follows = joined_follows place near p q range tail.0 tail.1 in
      let out : IsCovered covers p (tail_of place next) → ⊥ =
      λ c. u.1.3 (subst (λ (x : Point). IsCovered covers p x) (joined_tail place near p q range tail.0 tail.1) c) in
      let iff = are p next range next_range follows in (
        next,
        record {
          choice = choice_from p range u.0 (λ other below choice. out (iff.1 (inl (other, below, choice.has_point))));
          follows = follows;
          unmatched = λ some. out (iff.1 (inr some));
          parent_range = range;
          child_range = next_range;
        },
      )

  hole_to : (p : Point) → InRange p → HasHole kept set cubes place p → Uncovered p
  hole_to p range h =
      let q = h.0 in
      let hole = h.1 in
      let point = hole.choice.has_point in
      let iff = are p q range hole.child_range hole.follows in (
        subst (λ (x : CubeSet). has_set x p) (same_Some point.0 of (sym point.1 ∙ at)) point.2,
        (
          tail_of place q,
          tail_range place q near,
          (are_tails (tail_of place q) (tail_range place q near)).1 (mod-lt q.bytes (pow_pos (8 * place)), refl),
          λ c. elim (iff.0 c) [
            | inl below ↦ elim (cases_eq below.0 set) [
              | inl same ↦ below_irrefl kept.sets.items set (subst (λ (i : ℕ). IsBelow kept.sets.items i set) same below.1)
              | inr other ↦ never_both has_set kept.sets.items set below.0 (hole.choice.below below.0 below.2 other) below.1
            ]
            | inr some ↦ hole.unmatched some
          ],
        ),
      )

  pub least_holes : (found : Option Point) → IsLeastOf Uncovered found → IsLeastOf (HasHole kept set cubes place) found
  least_holes found h = least_same Uncovered (HasHole kept set cubes place) hole_from hole_to found h

  pub no_hole : IsLeastOf Uncovered None → TellsHole kept set cubes place None
  no_hole h = λ p q hole. least_holes None h p hole.parent_range (q, hole)

  -- what follows a hole's parent isn't covered
  pub not_all : (p : Point) (behind : Cube) → AreFollowers place p behind → IsLeastOf Uncovered (Some p) → IsFound behind cubes None → ⊥
  not_all p behind followers h none =
      let some = (least_holes (Some p) h).here in
      some.1.unmatched (none some.0 some.1.child_range ((followers some.0 some.1.child_range).1 some.1.follows))

  pub one_hole : (p q : Point) (behind : Cube) → AreFollowers place p behind → IsLeastOf Uncovered (Some p) → IsFound behind cubes (Some q)
      → IsLeastWhere (HasHole kept set cubes place) p × IsLeastWhere (IsHoleAt kept set cubes place p) q
  one_hole p q behind followers h found =
      let least = least_holes (Some p) h in (
        least,
        record {
          in_range = found.0.0;
          here = record {
            choice = least.here.1.choice;
            follows = (followers q found.0.0).0 found.0.1;
            unmatched = found.0.2;
            parent_range = least.in_range;
            child_range = found.0.0;
          };
          least = λ r range hole. found.1 r (range, (followers r range).1 hole.follows, hole.unmatched);
        },
      )

pub no_set : (kept : TableSets) (set : ℕ) (cubes : List Cube) (place : ℕ) → slice_get kept.sets.items set ≡ None → TellsHole kept set cubes place None
no_set kept set cubes place none = λ p q hole. there hole.choice.has_point.0 hole.choice.has_point.1
  where
    there : (s : CubeSet) → slice_get kept.sets.items set ≡ Some s → ⊥
    there s is = cc
