-- Covers that are put one after the other.
use Rattle.std.proofs.Common.{◌≡◌, ◌↔◌, ℕ, ◌+◌, ◌<◌, ◌≤◌, ◌⊎◌, List, length, get_or, [], ◌∷◌, ◌++◌, below_more, Some, None, Bool, true, false, IsTrue, arith, sym, ◌∙◌, ap, refl, inl, inr, subst}
use Rattle.std.specs.Prelude.{slice_get, not}
use Rattle.std.specs.Int.{bit_at}
use Rattle.std.specs.List.{Any, HoldsAt}
use Rattle.std.proofs.lemmas.Bool.{cases_lt, false≢true}
use Rattle.std.proofs.lemmas.List.Elements.{Contains-append_left, Contains-push_cases, at_read}
use Rattle.std.proofs.lemmas.List.Quantifiers.{Any-push}
use Rattle.std.proofs.lemmas.Nat.Bits.{bit_at-zero}
use Rattle.std.proofs.lemmas.Option.{same_Some, slice_get_within}
use Rattle.sl_cube.proofs.BitLemmas.{clash}
use Rattle.sl_cube.specs.Points.{InRange, IsIn}
use Rattle.sl_cube.specs.declared.Cube.{Cube}
use Rattle.sl_cube.specs.declared.Point.{Point}
use Rattle.sl_cube_sets.specs.Settled.{Matches}
use Rattle.sl_cube_sets.specs.Unions.{AreInside, IsBelow, has_set}
use Rattle.sl_cube_sets.specs.declared.CubeSet.{CubeSet}
use Rattle.sl_cube_tails.specs.Tails.{IsCovered}
use Rattle.sl_cube_tails.specs.declared.covers.Cover.{Cover}
use Rattle.sl_gap_holes.specs.Covered.{AddsAll, AddsBelow, AddsMoved, AreBelow, AreCovers, IsHullAt, IsWithAll, tail_of}
use Rattle.sl_gap_holes.specs.Windows.{Follows}

-- ---- one cover

in_whole : (c : Cube) (p : Point) → c.mask ≡ 0 → c.ctx_mask ≡ 0 → IsIn p c
in_whole c p m cm = (
  λ i on. absurd (clash (bit_at c.mask i) (ap (λ x. bit_at x i) m ∙ bit_at-zero i) on),
  λ i on. absurd (clash (bit_at c.ctx_mask i) (ap (λ x. bit_at x i) cm ∙ bit_at-zero i) on),
)

pub with_all_is : (cube : Cube) (cover : Cover) → cover.head ≡ cube → cover.tail.mask ≡ 0 → cover.tail.ctx_mask ≡ 0 → IsWithAll cube cover
with_all_is cube cover is m cm = λ p q. (
  λ h. subst (λ (c : Cube). IsIn p c) is h.0,
  λ h. (subst (λ (c : Cube). IsIn p c) (sym is) h, in_whole cover.tail q m cm),
)

-- ---- cubes as covers

-- for pairs of a point and a tail, and what of them a cube has
module _ (Pair : Type 0) (at : Pair → Point) (tail : Pair → Point) (R : Cube → Pair → Type 0) where
  abbrev Has : Pair → Cover → Type 0
  Has x c = IsIn (at x) c.head × IsIn (tail x) c.tail

  abbrev Covered : List Cover → Pair → Type 0
  Covered covers x = IsCovered covers (at x) (tail x)

  -- The covers of the first n cubes have been put.
  pub record PutFirst (cubes : List Cube) (old new : List Cover) (n : ℕ) : Type 0 where
    pub among : (x : Pair) → Covered new x → Covered old x ⊎ Any (λ c. R c x) cubes
    pub stays : (x : Pair) → Covered old x → Covered new x
    pub first : (k : ℕ) → k < n → HoldsAt (λ (c : Cube). (x : Pair) → R c x → Covered new x) cubes k

  pub put_none : (cubes : List Cube) (old : List Cover) → PutFirst cubes old old 0
  put_none cubes old = record { among = λ x h. inl h; stays = λ x h. h; first = λ k below. absurd (omega arith) }

  old_one : (xs : List Cover) (c : Cover) (x : Pair) → Covered xs x → Covered (xs ++ c ∷ []) x
  old_one xs c x h =
      let there = Contains-append_left xs (c ∷ []) h.1 (h.0, h.2, h.3) in
      (there.0, h.1, there.1, there.2, h.4)

  pushed_one : (xs : List Cover) (c : Cover) (x : Pair) → Covered (xs ++ c ∷ []) x → Covered xs x ⊎ Has x c
  pushed_one xs c x h = elim (Contains-push_cases xs c h.1 (h.0, h.2, h.3)) [
    | inl k ↦ inl (k.0, h.1, k.1, k.2, h.4)
    | inr e ↦ inr (subst (λ (y : Cover). Has x y) (sym e) h.4)
  ]

  pub put_more : (cubes : List Cube) (old between new : List Cover) (n : ℕ) (cube : Cube) (cover : Cover) → n < length cubes → cube ≡ get_or cubes n cube
      → ((x : Pair) → Has x cover ↔ R cube x) → new ≡ between ++ cover ∷ [] → PutFirst cubes old between n → PutFirst cubes old new (n + 1)
  put_more cubes old between new n cube cover below is same e f = subst (λ (l : List Cover). PutFirst cubes old l (n + 1)) (sym e) (record {
    among = λ x h. elim (pushed_one between cover x h) [
      | inl before ↦ f.among x before
      | inr now ↦ inr (n, cube, below, sym is, (same x).0 now)
    ];
    stays = λ x h. old_one between cover x (f.stays x h);
    first = below_more (λ k. HoldsAt (λ (c : Cube). (x : Pair) → R c x → Covered (between ++ cover ∷ []) x) cubes k) n
        (λ k lt d x r. old_one between cover x (f.first k lt d x r))
        (at_read cubes (λ (c : Cube). (x : Pair) → R c x → Covered (between ++ cover ∷ []) x) n cube below is
        (λ x r. Any-push (λ (y : Cover). Has x y) between cover ((same x).1 r)));
  })

  pub put_each : (cubes : List Cube) (old new : List Cover) (n : ℕ) → length cubes ≤ n → PutFirst cubes old new n
      → (x : Pair) → Covered new x ↔ (Covered old x ⊎ Any (λ c. R c x) cubes)
  put_each cubes old new n all f x = (
    f.among x,
    λ s. elim s [
      | inl h ↦ f.stays x h
      | inr h ↦
          let lt : h.0 < n = omega (arith, h.2) in
          let by = subst (λ (c : Cube). (x : Pair) → R c x → Covered new x) h.3 (f.first h.0 lt h.1) in
          by x h.4
    ],
  )

-- with all tails
abbrev pub AnyTail : Type 0
AnyTail = Point × Point

abbrev pub HasHead : Cube → AnyTail → Type 0
HasHead c x = IsIn x.0 c

abbrev pub AllFirst : List Cube → List Cover → List Cover → ℕ → Type 0
AllFirst = PutFirst AnyTail (λ x. x.0) (λ x. x.1) HasHead

pub all_put : (cubes : List Cube) (old new : List Cover) (n : ℕ) → length cubes ≤ n → AllFirst cubes old new n → AddsAll cubes old new
all_put cubes old new n all f = λ p q. put_each AnyTail (λ x. x.0) (λ x. x.1) HasHead cubes old new n all f (p, q)

-- with what follows
pub record Pair (place : ℕ) : Type 0 where
  pub p : Point
  pub q : Point
  pub p_range : InRange p
  pub q_range : InRange q
  pub follows : Follows place p q

abbrev pub HasNext : (place : ℕ) → Cube → Pair place → Type 0
HasNext place c x = IsIn x.q c

abbrev pub MovedFirst : (place : ℕ) → List Cube → List Cover → List Cover → ℕ → Type 0
MovedFirst place = PutFirst (Pair place) (λ x. x.p) (λ x. tail_of place x.q) (HasNext place)

pub moved_put : (place : ℕ) (cubes : List Cube) (old new : List Cover) (n : ℕ) → length cubes ≤ n → MovedFirst place cubes old new n → AddsMoved place cubes old new
moved_put place cubes old new n all f = λ p q p_range q_range follows.
    put_each (Pair place) (λ x. x.p) (λ x. tail_of place x.q) (HasNext place) cubes old new n all f
    (record { p = p; q = q; p_range = p_range; q_range = q_range; follows = follows })

-- ---- the sets that lie below

-- the first cube lies in the hull
pub first_inside : (hull cube : Cube) (cubes : List Cube) → slice_get cubes 0 ≡ Some cube → AreInside hull cubes → (p : Point) → InRange p → IsIn p cube → IsIn p hull
first_inside hull cube [] at inside p range there = absurd (cc)
first_inside hull cube (c ∷ cs) at inside p range there = inside p range (0, c, omega arith, refl, subst (λ (x : Cube). IsIn p x) (sym (same_Some c cube at)) there)

pub nothing_below : (sets : List CubeSet) (other set : ℕ) → slice_get sets other ≡ None → IsBelow sets other set → ⊥
nothing_below sets other set none b = cc

pub not_under : (sets : List CubeSet) (hull : Cube) (other set : ℕ) (of : CubeSet) → slice_get sets other ≡ Some of → IsHullAt sets set hull
    → (AreInside hull of.cubes.items → ⊥) → IsBelow sets other set → ⊥
not_under sets hull other set of at is_hull out b = out (λ p range some.
    is_hull b.outer b.outer_is p range (b.within p range (subst (λ (x : CubeSet). has_set x p) (same_Some of b.inner (sym at ∙ b.inner_is)) some)))

pub never_iff : (P : Type 0) → (P → ⊥) → IsTrue false ↔ P
never_iff P out = (λ t. absurd (false≢true t), λ h. absurd (out h))

pub adds_no_below : (sets : List CubeSet) (set other : ℕ) (old : List Cover) → (IsBelow sets other set → ⊥) → AddsBelow sets set other old old
adds_no_below sets set other old out = λ p q. (inl, λ s. elim s [ inl h ↦ h | inr h ↦ absurd (out h.0) ])

pub adds_below : (sets : List CubeSet) (set other : ℕ) (s : CubeSet) (old new : List Cover) → slice_get sets other ≡ Some s → IsBelow sets other set
    → AddsAll s.cubes.items old new → AddsBelow sets set other old new
adds_below sets set other s old new at below adds = λ p q. (
  λ h. elim ((adds p q).0 h) [ inl before ↦ inl before | inr now ↦ inr (below, (s, at, now)) ],
  λ h. elim h [
    | inl before ↦ (adds p q).1 (inl before)
    | inr now ↦ (adds p q).1 (inr (subst (λ (x : CubeSet). has_set x p) (same_Some now.1.0 s (sym now.1.1 ∙ at)) now.1.2))
  ],
)

-- The covers have the points of those of the first n sets that lie below.
abbrev pub BelowFirst : List CubeSet → ℕ → List Cover → ℕ → Type 0
BelowFirst sets set covers n = (p q : Point) → IsCovered covers p q ↔ ((other : ℕ) × (other < n) × IsBelow sets other set × Matches sets p other)

none_covered : (p q : Point) → IsCovered [] p q → ⊥
none_covered p q h = omega (arith, h.2)

pub below_none : (sets : List CubeSet) (set : ℕ) → BelowFirst sets set [] 0
below_none sets set = λ p q. (λ h. absurd (none_covered p q h), λ h. absurd (omega (arith, h.1)))

pub below_next : (sets : List CubeSet) (set : ℕ) (old new : List Cover) (n : ℕ) → AddsBelow sets set n old new → BelowFirst sets set old n → BelowFirst sets set new (n + 1)
below_next sets set old new n adds f = λ p q. (
  λ h. elim ((adds p q).0 h) [
    | inl before ↦ let k = (f p q).0 before in (k.0, omega (arith, k.1), k.2, k.3)
    | inr now ↦ (n, omega arith, now.0, now.1)
  ],
  λ h. elim (cases_lt h.0 n) [
    | inl before ↦ (adds p q).1 (inl ((f p q).1 (h.0, before, h.2, h.3)))
    | inr after ↦
        let same : h.0 ≡ n = omega (arith, h.1, after) in
        (adds p q).1 (inr (subst (λ (k : ℕ). IsBelow sets k set) same h.2, subst (λ (k : ℕ). Matches sets p k) same h.3))
  ],
)

pub below_all : (sets : List CubeSet) (set : ℕ) (covers : List Cover) (n : ℕ) → length sets ≤ n → BelowFirst sets set covers n → AreBelow sets set covers
below_all sets set covers n all f = λ p q range. (
  λ h. let k = (f p q).0 h in (k.0, k.2, k.3),
  λ h. let lt = slice_get_within sets h.0 h.2.0 h.2.1 in (f p q).1 (h.0, omega (arith, lt, all), h.1, h.2),
)

pub below_nowhere : (sets : List CubeSet) (set : ℕ) → slice_get sets set ≡ None → AreBelow sets set []
below_nowhere sets set none = λ p q range. (
  λ h. absurd (none_covered p q h),
  λ h. absurd (outer_there h.1.outer h.1.outer_is),
)
  where
    outer_there : (s : CubeSet) → slice_get sets set ≡ Some s → ⊥
    outer_there s is = cc

pub below_empty : (sets : List CubeSet) (set : ℕ) (of : CubeSet) → slice_get sets set ≡ Some of → length of.cubes.items ≡ 0 → AreBelow sets set []
below_empty sets set of at none = λ p q range. (
  λ h. absurd (none_covered p q h),
  λ h.
      let b = h.1 in
      let inner = subst (λ (x : CubeSet). has_set x p) (same_Some h.2.0 b.inner (sym h.2.1 ∙ b.inner_is)) h.2.2 in
      let outer = subst (λ (x : CubeSet). has_set x p) (same_Some b.outer of (sym b.outer_is ∙ at)) (b.within p range inner) in
      absurd (omega (arith, none, outer.2)),
)

pub hull_at : (sets : List CubeSet) (set : ℕ) (of : CubeSet) (hull : Cube) → slice_get sets set ≡ Some of → AreInside hull of.cubes.items → IsHullAt sets set hull
hull_at sets set of hull at inside = λ s s_is. subst (λ (x : CubeSet). AreInside hull x.cubes.items) (same_Some of s (sym at ∙ s_is)) inside

pub covers_both : (sets : List CubeSet) (set place : ℕ) (cubes : List Cube) (old new : List Cover) → AreBelow sets set old → AddsMoved place cubes old new
    → AreCovers sets set place cubes new
covers_both sets set place cubes old new below adds = λ p q p_range q_range follows.
    let one = adds p q p_range q_range follows in
    let two = below p (tail_of place q) p_range in (
      λ h. elim (one.0 h) [ inl before ↦ inl (two.0 before) | inr now ↦ inr now ],
      λ h. elim h [ inl before ↦ one.1 (inl (two.1 before)) | inr now ↦ one.1 (inr now) ],
    )

pub not_outside : (b : Bool) → b ≡ true → IsTrue (not b) → ⊥
not_outside true e t = absurd (false≢true t)
not_outside false e t = absurd (false≢true e)
