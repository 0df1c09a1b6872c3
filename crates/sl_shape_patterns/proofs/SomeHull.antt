-- Points surely have a hull, or there are none.
use Rattle.std.proofs.Common.{◌≡◌, ℕ, zero, suc, ◌+◌, ◌-◌, ◌*◌, ◌<◌, ◌^◌, min, Option, Some, None, bit_and, sym, ap, ◌∙◌, subst, inl, inr, arith}
use Rattle.std.specs.Int.{bit_at}
use Rattle.std.proofs.Math.Nat.{pow-suc}
use Rattle.std.proofs.lemmas.Bool.{cases_eq, cases_lt}
use Rattle.std.proofs.lemmas.Nat.Bits.{bit_at_above, bit_at_and, bit_at-lt, bit_at-zero, bit_at_cat_high, bit_at_cat_low}
use Rattle.sl_cube.specs.Bits.{Agrees}
use Rattle.sl_cube.specs.Points.{InRange}
use Rattle.sl_cube.specs.declared.Cube.{Cube}
use Rattle.sl_cube.specs.declared.Point.{Point}
use Rattle.sl_cube.proofs.BitLemmas.{and_within}
use Rattle.sl_base_surely.specs.Surely.{Surely}
use Rattle.sl_base_surely.proofs.SurelyLemmas.{below_next, surely, surely_either, surely_map, surely_then}
use Rattle.sl_shape_patterns.specs.Hulls.{IsHullOrNone, IsHullWhere, SharedWhere}

-- ---- a mask of the numbers for which something holds

pub record IsMaskOf (S : ℕ → Type 0) (width mask : ℕ) : Type 0 where
  pub below : mask < 2 ^ width
  pub only : (i : ℕ) → bit_at mask i ≡ 1 → S i
  pub all : (i : ℕ) → i < width → S i → bit_at mask i ≡ 1

-- There is such a mask.
abbrev HasMask : (ℕ → Type 0) → ℕ → Type 0
HasMask S width = (mask : ℕ) × IsMaskOf S width mask

off_on : (b : ℕ) → b ≡ 0 → b ≡ 1 → ⊥
off_on b p q = omega (arith, p, q)

module _ (S : ℕ → Type 0) where
  no_mask : IsMaskOf S 0 0
  no_mask = record {
    below = omega arith;
    only = λ i on. absurd (off_on (bit_at 0 i) (bit_at-zero i) on);
    all = λ i less s. absurd (omega (arith, less));
  }

  module _ (width mask : ℕ) (is : IsMaskOf S width mask) where
    same_mask : (S width → ⊥) → IsMaskOf S (suc width) mask
    same_mask not_here = record {
      below = let b = is.below in let d = pow-suc 2 width in omega (arith, b, d);
      only = is.only;
      all = λ i less s. elim (below_next i width less) [
        | inl before ↦ is.all i before s
        | inr at ↦ absurd (not_here (subst S (sym at) s))
      ];
    }

    abbrev more : ℕ
    more = 1 * 2 ^ width + mask

    at_top : bit_at more width ≡ 1
    at_top = let e : width - width ≡ 0 = omega arith in bit_at_cat_high 1 width mask width is.below (omega arith) ∙ ap (λ (n : ℕ). bit_at 1 n) e

    below_top : more < 2 ^ suc width
    below_top = let b = is.below in let d = pow-suc 2 width in omega (arith, b, d)

    next_mask : S width → IsMaskOf S (suc width) more
    next_mask here = record {
      below = below_top;
      only = λ i on. elim (cases_lt i width) [
        | inl before ↦ is.only i (sym (bit_at_cat_low 1 width mask i before) ∙ on)
        | inr from ↦ elim (cases_eq i width) [
          | inl at ↦ subst S (sym at) here
          | inr other ↦ absurd (off_on (bit_at more i) (bit_at_above more (suc width) i below_top (omega (arith, from, other))) on)
        ]
      ];
      all = λ i less s. elim (below_next i width less) [
        | inl before ↦ bit_at_cat_low 1 width mask i before ∙ is.all i before s
        | inr at ↦ subst (λ (n : ℕ). bit_at more n ≡ 1) at at_top
      ];
    }

  some_mask : (width : ℕ) → Surely (HasMask S width)
  some_mask zero = surely (0, no_mask)
  some_mask (suc width) = surely_then {B = HasMask S (suc width)} (some_mask width) (λ mask.
      surely_map {B = HasMask S (suc width)} (λ found. elim found [
        | inl here ↦ (1 * 2 ^ width + mask.0, next_mask width mask.0 mask.1 here)
        | inr not_here ↦ (mask.0, same_mask width mask.0 mask.1 not_here)
      ]) (surely_either (S width)))

-- ---- the bits that all points share

kept_bit : (v m : ℕ) → v < 2 → m ≡ 1 → min v m ≡ v
kept_bit v m small on = omega (arith, small, on)

module _ (P : Point → Type 0) (x : Point) (range : InRange x) (holds : P x) (part : Point → ℕ) (width : ℕ)
    (fits : (p : Point) → InRange p → part p < 2 ^ width) where
  -- All of the points have the same bit there.
  abbrev pub IsShared : ℕ → Type 0
  IsShared i = (bit : ℕ) × ((p : Point) → InRange p → P p → bit_at (part p) i ≡ bit)

  module _ (mask : ℕ) (is : IsMaskOf IsShared width mask) where
    value_bit : (i : ℕ) → bit_at mask i ≡ 1 → bit_at (bit_and (part x) mask) i ≡ bit_at (part x) i
    value_bit i on = bit_at_and (part x) mask i ∙ kept_bit (bit_at (part x) i) (bit_at mask i) (bit_at-lt (part x) i) on

    agrees_shares : (q : Point) → InRange q → Agrees mask (bit_and (part x) mask) (part q) → SharedWhere part P q
    agrees_shares q q_range agrees = λ i bit all. elim (cases_lt i width) [
      | inl before ↦
          let on = is.all i before (bit, all) in
          agrees i on ∙ value_bit i on ∙ all x range holds
      | inr from ↦
          bit_at_above (part q) width i (fits q q_range) from ∙ sym (bit_at_above (part x) width i (fits x range) from)
          ∙ all x range holds
    ]

    shares_agree : (q : Point) → SharedWhere part P q → Agrees mask (bit_and (part x) mask) (part q)
    shares_agree q shares = λ i on.
        let s = is.only i on in
        shares i s.0 s.1 ∙ sym (s.1 x range holds) ∙ sym (value_bit i on)

-- ---- the hull

module _ (P : Point → Type 0) where
  module _ (x : Point) (range : InRange x) (holds : P x) where
    bytes_fit : (p : Point) → InRange p → p.bytes < 2 ^ 128
    bytes_fit p r = r.0

    context_fits : (p : Point) → InRange p → p.context < 2 ^ 64
    context_fits p r = r.1

    abbrev BytesShared : ℕ → Type 0
    BytesShared = IsShared P x range holds (λ p. p.bytes) 128 bytes_fit

    abbrev ContextShared : ℕ → Type 0
    ContextShared = IsShared P x range holds (λ p. p.context) 64 context_fits

    hull_of : HasMask BytesShared 128 → HasMask ContextShared 64 → (hull : Cube) × IsHullWhere P hull
    hull_of m n = (
      record {
        mask = m.0;
        value = bit_and x.bytes m.0;
        ctx_mask = n.0;
        ctx_value = bit_and x.context n.0;
        within = and_within x.bytes m.0;
        ctx_within = and_within x.context n.0;
      },
      λ q q_range. (
        λ inside. (
          agrees_shares P x range holds (λ p. p.bytes) 128 bytes_fit m.0 m.1 q q_range inside.0,
          agrees_shares P x range holds (λ p. p.context) 64 context_fits n.0 n.1 q q_range inside.1,
        ),
        λ shares. (
          shares_agree P x range holds (λ p. p.bytes) 128 bytes_fit m.0 m.1 q shares.0,
          shares_agree P x range holds (λ p. p.context) 64 context_fits n.0 n.1 q shares.1,
        ),
      ),
    )

    some_where : Surely ((found : Option Cube) × IsHullOrNone P found)
    some_where = surely_then {B = (found : Option Cube) × IsHullOrNone P found} (some_mask BytesShared 128) (λ m.
        surely_map {B = (found : Option Cube) × IsHullOrNone P found} (λ n. let h = hull_of m n in (Some h.0, h.1)) (some_mask ContextShared 64))

  -- It holds of some point.
  abbrev pub HoldsSomewhere : Type 0
  HoldsSomewhere = (x : Point) × InRange x × P x

  pub some_hull : Surely ((found : Option Cube) × IsHullOrNone P found)
  some_hull = surely_then {B = (found : Option Cube) × IsHullOrNone P found} (surely_either HoldsSomewhere) (λ either. elim either [
    | inl some ↦ some_where some.0 some.1 some.2
    | inr none ↦ surely (None, λ x range holds. none (x, range, holds))
  ])
