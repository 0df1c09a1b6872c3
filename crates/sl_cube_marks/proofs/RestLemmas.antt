-- What is left of sets in a region: what is added, kept and left out, and what the cubes fix.
use Rattle.std.proofs.Common.{◌≡◌, ℕ, ◌+◌, ◌<◌, ◌≤◌, ◌⊎◌, MatchOption, List, length, get_or, [], ◌∷◌, ◌++◌, below_more, Option, Some, None, arith, sym, ◌∙◌, ap, refl, inl, inr, subst}
use Rattle.std.specs.Prelude.{slice_get}
use Rattle.std.specs.List.{All, HoldsAt}
use Rattle.std.proofs.lemmas.Bool.{cases_lt}
use Rattle.std.proofs.lemmas.List.Elements.{Contains-append_left, Contains-push_cases, at_read}
use Rattle.std.proofs.lemmas.List.Quantifiers.{Any-push}
use Rattle.std.proofs.lemmas.Option.{same_Some, slice_get_read, slice_get_within}
use Rattle.sl_cube.specs.declared.Cube.{Cube}
use Rattle.sl_cube.specs.declared.Point.{Point}
use Rattle.sl_cube.specs.Points.{InRange, IsIn, IsInSome}
use Rattle.sl_cube.specs.Cubes.{AreMeeting}
use Rattle.sl_cube.specs.Search.{KeepsMeeting, IsHalved, FixesNoMore}
use Rattle.sl_cube.specs.Tallies.{IsOpenBits, IsOpenIfSome, AreWeighed}
use Rattle.sl_cube.proofs.OutsideLemmas.{keeps_meeting}
use Rattle.sl_cube_marks.specs.Rests.{IsThere, AddsWithin, AddsUnless, IsAbove, IsFiller, IsFilledBy, KeepsChoices, IsConstant, AreAllOf}
use Rattle.sl_cube_marks.specs.declared.narrowing.Rest.{Rest}
use Rattle.sl_cube_sets.specs.declared.CubeSet.{CubeSet}
use Rattle.sl_cube_sets.specs.Left.{Fills}
use Rattle.sl_cube_sets.specs.Settled.{Matches}
use Rattle.sl_cube_sets.specs.Unions.{has_set}

-- ---- cubes in a region

pub keeps_whole : (region : Cube) (cubes met whole : List Cube) → AreMeeting region cubes met → Fills region met → whole ≡ region ∷ []
    → KeepsMeeting region cubes whole
keeps_whole region cubes met whole meets fills is = subst (λ (l : List Cube). KeepsMeeting region cubes l) (sym is) (λ p range inside. (
  λ h. (keeps_meeting region cubes met meets p range inside).0 (fills p range inside),
  λ h. (0, region, omega arith, refl, inside),
))

-- ---- one set more

pub there_at : (left : List Rest) (k : ℕ) (r : Rest) (p : Point) → k < length left → r ≡ get_or left k r → IsInSome r.cubes.items p → IsThere left p r.set
there_at left k r p below is inside = (k, r, below, sym is, (refl, inside))

old_there : (xs : List Rest) (r : Rest) (p : Point) (i : ℕ) → IsThere xs p i → IsThere (xs ++ r ∷ []) p i
old_there xs r p i h =
    let there = Contains-append_left xs (r ∷ []) h.1 (h.0, h.2, h.3) in
    (there.0, h.1, there.1, there.2, h.4)

new_there : (xs : List Rest) (r : Rest) (p : Point) (i : ℕ) → (r.set ≡ i) × IsInSome r.cubes.items p → IsThere (xs ++ r ∷ []) p i
new_there xs r p i h = Any-push (λ (x : Rest). (x.set ≡ i) × IsInSome x.cubes.items p) xs r h

pushed_there : (xs : List Rest) (r : Rest) (p : Point) (i : ℕ) → IsThere (xs ++ r ∷ []) p i
    → IsThere xs p i ⊎ ((r.set ≡ i) × IsInSome r.cubes.items p)
pushed_there xs r p i h = elim (Contains-push_cases xs r h.1 (h.0, h.2, h.3)) [
  | inl k ↦ inl (k.0, h.1, k.1, k.2, h.4)
  | inr e ↦ inr (subst (λ (x : Rest). (x.set ≡ i) × IsInSome x.cubes.items p) (sym e) h.4)
]

pub within_pushed : (region : Cube) (set : ℕ) (cubes : List Cube) (xs new : List Rest) (r : Rest) → KeepsMeeting region cubes r.cubes.items → r.set ≡ set
    → new ≡ xs ++ r ∷ [] → AddsWithin region set cubes xs new
within_pushed region set cubes xs new r keeps is e = subst (λ (l : List Rest). AddsWithin region set cubes xs l) (sym e) (λ p range inside i. (
  λ h. elim (pushed_there xs r p i h) [ inl old ↦ inl old | inr fresh ↦ inr (sym is ∙ fresh.0, (keeps p range inside).0 fresh.1) ],
  λ s. elim s [ inl old ↦ old_there xs r p i old | inr fresh ↦ new_there xs r p i (is ∙ fresh.0, (keeps p range inside).1 fresh.1) ],
))

none_in : (cubes : List Cube) (p : Point) → length cubes ≡ 0 → IsInSome cubes p → ⊥
none_in cubes p none h = omega (arith, none, h.2)

pub within_nothing : (region : Cube) (set : ℕ) (cubes kept : List Cube) (xs : List Rest) → KeepsMeeting region cubes kept → length kept ≡ 0
    → AddsWithin region set cubes xs xs
within_nothing region set cubes kept xs keeps none = λ p range inside i. (
  inl,
  λ s. elim s [ inl old ↦ old | inr fresh ↦ absurd (none_in kept p none ((keeps p range inside).1 fresh.1)) ],
)

-- ---- what is kept in a region

-- The set stays, or lies above the one that is told.
abbrev Stays : List CubeSet → Cube → Option ℕ → List Rest → Rest → Type 0
Stays sets region filled kept r = (p : Point) → InRange p → IsIn p region → IsInSome r.cubes.items p → IsThere kept p r.set ⊎ IsAbove sets filled r.set

pub record KeptFirst (sets : List CubeSet) (region : Cube) (filled : Option ℕ) (left kept : List Rest) (n : ℕ) : Type 0 where
  pub among : (p : Point) → InRange p → IsIn p region → (i : ℕ) → IsThere kept p i → IsThere left p i
  pub first : (k : ℕ) → k < n → HoldsAt (Stays sets region filled kept) left k

nothing_there : (p : Point) (i : ℕ) → IsThere [] p i → ⊥
nothing_there p i h = omega (arith, h.2)

pub kept_none : (sets : List CubeSet) (region : Cube) (filled : Option ℕ) (left : List Rest) → KeptFirst sets region filled left [] 0
kept_none sets region filled left = record { among = λ p range inside i h. absurd (nothing_there p i h); first = λ k below. absurd (omega arith) }

pub kept_more : (sets : List CubeSet) (region : Cube) (filled : Option ℕ) (left kept new : List Rest) (n : ℕ) (r : Rest) → n < length left → r ≡ get_or left n r
    → AddsUnless sets region filled r kept new → KeptFirst sets region filled left kept n → KeptFirst sets region filled left new (n + 1)
kept_more sets region filled left kept new n r below is (inl adds) f = record {
  among = λ p range inside i h. elim ((adds p range inside i).0 h) [
    | inl old ↦ f.among p range inside i old
    | inr fresh ↦ subst (λ (x : ℕ). IsThere left p x) fresh.0 (there_at left n r p below is fresh.1)
  ];
  first = below_more (λ k. HoldsAt (Stays sets region filled new) left k) n
      (λ k lt d p range inside has. elim (f.first k lt d p range inside has) [
        | inl there ↦ inl ((adds p range inside (get_or left k d).set).1 (inl there))
        | inr above ↦ inr above
      ])
      (at_read left (Stays sets region filled new) n r below is (λ p range inside has. inl ((adds p range inside r.set).1 (inr (refl, has)))));
}
kept_more sets region filled left kept new n r below is (inr unless) f = subst (λ (l : List Rest). KeptFirst sets region filled left l (n + 1)) (sym unless.0) (record {
  among = f.among;
  first = below_more (λ k. HoldsAt (Stays sets region filled kept) left k) n f.first
      (at_read left (Stays sets region filled kept) n r below is (λ p range inside has. inr unless.1));
})

pub kept_all : (sets : List CubeSet) (region : Cube) (filled : Option ℕ) (left kept : List Rest) (n : ℕ) → length left ≤ n
    → KeptFirst sets region filled left kept n → KeepsChoices sets region filled left kept
kept_all sets region filled left kept n all f = record {
  among = f.among;
  leaves = λ p range inside i h.
      let lt : h.0 < n = omega (arith, h.2) in
      let at = subst (Stays sets region filled kept) h.3 (f.first h.0 lt h.1) in
      subst (λ (x : ℕ). IsThere kept p x ⊎ IsAbove sets filled x) h.4.0 (at p range inside h.4.1);
}

-- ---- all sets

pub record AllFirst (sets : List CubeSet) (region : Cube) (left : List Rest) (n : ℕ) : Type 0 where
  pub among : (p : Point) → InRange p → IsIn p region → (i : ℕ) → IsThere left p i → Matches sets p i
  pub first : (p : Point) → InRange p → IsIn p region → (i : ℕ) → i < n → Matches sets p i → IsThere left p i

pub all_none : (sets : List CubeSet) (region : Cube) → AllFirst sets region [] 0
all_none sets region = record { among = λ p range inside i h. absurd (nothing_there p i h); first = λ p range inside i below. absurd (omega arith) }

pub all_more : (sets : List CubeSet) (region : Cube) (left new : List Rest) (n : ℕ) (s : CubeSet) → n < length sets → s ≡ get_or sets n s
    → AddsWithin region n s.cubes.items left new → AllFirst sets region left n → AllFirst sets region new (n + 1)
all_more sets region left new n s below is adds f =
    let at : slice_get sets n ≡ Some s = slice_get_read sets (length sets) n s refl below is in
    record {
      among = λ p range inside i h. elim ((adds p range inside i).0 h) [
        | inl old ↦ f.among p range inside i old
        | inr fresh ↦ subst (λ (x : ℕ). Matches sets p x) fresh.0 (s, at, fresh.1)
      ];
      first = λ p range inside i lt m. elim (cases_lt i n) [
        | inl before ↦ (adds p range inside i).1 (inl (f.first p range inside i before m))
        | inr after ↦
            let same : n ≡ i = omega arith in
            let here : m.0 ≡ s = same_Some m.0 s (sym m.1 ∙ ap (λ (k : ℕ). slice_get sets k) (sym same) ∙ at) in
            (adds p range inside i).1 (inr (same, subst (λ (x : CubeSet). has_set x p) here m.2))
      ];
    }

pub all_all : (sets : List CubeSet) (region : Cube) (left : List Rest) (n : ℕ) → length sets ≤ n → AllFirst sets region left n → AreAllOf sets region left
all_all sets region left n all f = λ p range inside i. (
  f.among p range inside i,
  λ m. let lt : i < length sets = slice_get_within sets i m.0 m.1 in f.first p range inside i (omega arith) m,
)

-- ---- a set that fills the region

pub filled_more : (region : Cube) (left : List Rest) (n : ℕ) (r : Rest) (found result : Option ℕ) → n < length left → r ≡ get_or left n r
    → IsFiller region r found result → IsFilledBy region left found → IsFilledBy region left result
filled_more region left n r found result below is (inl same) f = subst (λ (o : Option ℕ). IsFilledBy region left o) (sym same) f
filled_more region left n r found result below is (inr fill) f =
    subst (λ (o : Option ℕ). IsFilledBy region left o) (sym fill.0) (λ p range inside. there_at left n r p below is (fill.1 p range inside))

-- ---- the bits that the cubes fix

-- No cube of the first n sets fixes an open bit, or the bits are open.
abbrev pub TalliedFirst : Cube → List Rest → ℕ → Option Point → Type 0
TalliedFirst region left n None = (k : ℕ) → k < n → HoldsAt (λ (r : Rest). All (FixesNoMore region) r.cubes.items) left k
TalliedFirst region left n (Some bits) = IsOpenBits region bits

pub tallied_begun : (region : Cube) (left : List Rest) → TalliedFirst region left 0 None
tallied_begun region left = λ k below. absurd (omega arith)

pub tallied_open : (region : Cube) (left : List Rest) (n : ℕ) (now : Option Point) → TalliedFirst region left n now → IsOpenIfSome region now
tallied_open region left n None f = tt
tallied_open region left n (Some bits) f = f

pub tallied_more : (region : Cube) (left : List Rest) (n : ℕ) (r : Rest) (now next : Option Point) → n < length left → r ≡ get_or left n r
    → AreWeighed region r.cubes.items now next → TalliedFirst region left n now → TalliedFirst region left (n + 1) next
tallied_more region left n r now None below is after f =
    below_more (λ k. HoldsAt (λ (x : Rest). All (FixesNoMore region) x.cubes.items) left k) n (subst (λ (o : Option Point). TalliedFirst region left n o) after.0 f)
    (at_read left (λ (x : Rest). All (FixesNoMore region) x.cubes.items) n r below is after.1)
tallied_more region left n r now (Some bits) below is after f = elim after [
  | inl kept ↦ subst (λ (o : Option Point). TalliedFirst region left n o) kept f
  | inr new ↦ new
]

constant_in : (region : Cube) (cubes : List Cube) (p q : Point) → IsIn p region → IsIn q region → All (FixesNoMore region) cubes → IsInSome cubes p → IsInSome cubes q
constant_in region cubes p q in_p in_q all some =
    (some.0, some.1, some.2, some.3, (subst (FixesNoMore region) some.3 (all some.0 some.1 some.2)).same p q in_p in_q some.4)

tallied_all : (region : Cube) (left : List Rest) (n : ℕ) → length left ≤ n → TalliedFirst region left n None → IsConstant region left
tallied_all region left n all f = λ p q in_p in_q i h.
    let lt : h.0 < n = omega (arith, h.2) in
    let at = subst (λ (x : Rest). All (FixesNoMore region) x.cubes.items) h.3 (f h.0 lt h.1) in
    (h.0, h.1, h.2, h.3, (h.4.0, constant_in region h.1.cubes.items p q in_p in_q at h.4.1))

pub tallied_halves : (region : Cube) (left : List Rest) (n : ℕ) (now : Option Point) (halves : Option (Cube × Cube)) → length left ≤ n → TalliedFirst region left n now
    → MatchOption halves (now ≡ None) (λ h. IsHalved region h.0 h.1) → MatchOption halves (IsConstant region left) (λ h. IsHalved region h.0 h.1)
tallied_halves region left n now None all f none = tallied_all region left n all (subst (λ (o : Option Point). TalliedFirst region left n o) none f)
tallied_halves region left n now (Some h) all f halved = halved
