-- What is left of sets in a region: candidates that are added, kept and taken away.
use Rattle.std.proofs.Common.{suc, zero, ◌≡◌, ◌≢◌, ◌↔◌, ℕ, ◌+◌, ◌<◌, ◌≤◌, ◌⊎◌, MatchOption, IfSome, List, length, get_or, [], ◌∷◌, ◌++◌, below_more, Option, Some, None, Bool, true, false, IsTrue, arith, sym, ◌∙◌, ap, refl, inl, inr, subst}
use mathlib.Core.Bool.{not}
use Rattle.std.specs.Option.{is_some}
use Rattle.std.specs.List.{All, Any, HoldsAt}
use Rattle.std.proofs.lemmas.Bool.{cases_eq, false≢true}
use Rattle.std.proofs.lemmas.List.Elements.{Contains-append_left, Contains-push_cases, at_read}
use Rattle.std.proofs.lemmas.List.Quantifiers.{Any-push}
use Rattle.std.proofs.lemmas.List.{get_or_default}
use Rattle.sl_cube.specs.declared.Cube.{Cube}
use Rattle.sl_cube.specs.declared.Point.{Point}
use Rattle.sl_cube.specs.Points.{InRange, IsIn, IsInSome}
use Rattle.sl_cube.specs.Cubes.{Includes, DoMeet}
use Rattle.sl_cube.specs.Search.{KeepsMeeting, IsHalved, FixesNoMore}
use Rattle.sl_cube.specs.Tallies.{IsOpenBits, IsOpenIfSome, AreWeighed}
use Rattle.sl_cube.proofs.CubeLemmas.{in_or_out}
use Rattle.sl_cube_sets.proofs.WithinLemmas.{below_irrefl, below_trans}
use Rattle.sl_cube_sets.specs.declared.CubeSet.{CubeSet}
use Rattle.sl_cube_sets.specs.declared.candidate.Candidate.{Candidate}
use Rattle.sl_cube_sets.specs.Unions.{IsBelow, AreInside, IsHullOf}
use Rattle.sl_cube_sets.specs.Settled.{IsBest, IsSettled, IsUnsettled}
use Rattle.sl_cube_sets.specs.Left.{cubes_of, IsThere, IsNoneThere, KeepsAll, Adds, AddsWithin, AddsUnless, IsAbove, IsWithoutAbove, Fills, IsFilledBy, Carries, IsAnswer, IsConstant, StandsBeside, IsLowest, HasBest, IsChosen, AreNested}

-- ---- one more candidate

pub there_at : (left : List Candidate) (k : ℕ) (c : Candidate) (p : Point) → k < length left → c ≡ get_or left k c → IsInSome (cubes_of c) p → IsThere left p c.set
there_at left k c p below is inside = (k, c, below, sym is, (refl, inside))

old_there : (xs : List Candidate) (c : Candidate) (p : Point) (i : ℕ) → IsThere xs p i → IsThere (xs ++ c ∷ []) p i
old_there xs c p i h =
    let there = Contains-append_left xs (c ∷ []) h.1 (h.0, h.2, h.3) in
    (there.0, h.1, there.1, there.2, h.4)

new_there : (xs : List Candidate) (c : Candidate) (p : Point) (i : ℕ) → (c.set ≡ i) × IsInSome (cubes_of c) p → IsThere (xs ++ c ∷ []) p i
new_there xs c p i h = Any-push (λ (x : Candidate). (x.set ≡ i) × IsInSome (cubes_of x) p) xs c h

pushed_there : (xs : List Candidate) (c : Candidate) (p : Point) (i : ℕ) → IsThere (xs ++ c ∷ []) p i
    → IsThere xs p i ⊎ ((c.set ≡ i) × IsInSome (cubes_of c) p)
pushed_there xs c p i h = elim (Contains-push_cases xs c h.1 (h.0, h.2, h.3)) [
  | inl k ↦ inl (k.0, h.1, k.1, k.2, h.4)
  | inr e ↦ inr (subst (λ (x : Candidate). (x.set ≡ i) × IsInSome (cubes_of x) p) (sym e) h.4)
]

pub adds_pushed : (xs : List Candidate) (c : Candidate) → Adds xs c.set (cubes_of c) (xs ++ c ∷ [])
adds_pushed xs c = λ p i. (pushed_there xs c p i, λ s. elim s [ inl old ↦ old_there xs c p i old | inr new ↦ new_there xs c p i new ])

pub adds_nothing : (xs : List Candidate) (set : ℕ) (cubes : List Cube) → length cubes ≡ 0 → Adds xs set cubes xs
adds_nothing xs set cubes none = λ p i. (inl, λ s. elim s [ inl old ↦ old | inr new ↦ absurd (omega (arith, new.1.2)) ])

-- a candidate that has the set and the cubes of another
pub adds_lent : (xs : List Candidate) (c d : Candidate) → d.set ≡ c.set → cubes_of d ≡ cubes_of c → Adds xs c.set (cubes_of c) (xs ++ d ∷ [])
adds_lent xs c d set cubes =
    subst (λ (i : ℕ). Adds xs i (cubes_of c) (xs ++ d ∷ [])) set (subst (λ (cs : List Cube). Adds xs d.set cs (xs ++ d ∷ [])) cubes (adds_pushed xs d))

pub within_adds : (region : Cube) (xs new : List Candidate) (c : Candidate) → Adds xs c.set (cubes_of c) new → AddsWithin region c xs new
within_adds region xs new c adds = λ p range inside i. adds p i

-- only the cubes that meet the region
pub within_meeting : (region : Cube) (xs new : List Candidate) (c : Candidate) (cubes : List Cube) → KeepsMeeting region (cubes_of c) cubes → Adds xs c.set cubes new
    → AddsWithin region c xs new
within_meeting region xs new c cubes meets adds = λ p range inside i. (
  λ h. elim ((adds p i).0 h) [ inl old ↦ inl old | inr fresh ↦ inr (fresh.0, (meets p range inside).0 fresh.1) ],
  λ s. elim s [ inl old ↦ (adds p i).1 (inl old) | inr fresh ↦ (adds p i).1 (inr (fresh.0, (meets p range inside).1 fresh.1)) ],
)

-- nothing, since the hull lies outside
pub within_apart : (region : Cube) (xs : List Candidate) (c : Candidate) → (DoMeet region c.hull → ⊥) → AddsWithin region c xs xs
within_apart region xs c apart = λ p range inside i. (
  inl,
  λ s. elim s [
    | inl old ↦ old
    | inr fresh ↦ absurd (apart (p, range, inside, c.in_hull p range fresh.1))
  ],
)

pub hull_inside : (cubes : List Cube) (hull : Cube) → IsHullOf cubes hull → AreInside hull cubes
hull_inside cubes hull is = λ p range some. (is p range).1 (λ i bit all. all p range some, λ i bit all. all p range some)

-- ---- what is left in a region

pub record KeptFirst (region : Cube) (left kept : List Candidate) (n : ℕ) : Type 0 where
  pub among : (p : Point) (i : ℕ) → InRange p → IsIn p region → IsThere kept p i → IsThere left p i
  pub first : (k : ℕ) → k < n → HoldsAt (λ (c : Candidate). (p : Point) → InRange p → IsIn p region → IsInSome (cubes_of c) p → IsThere kept p c.set) left k

pub nothing_there : (p : Point) (i : ℕ) → IsThere [] p i → ⊥
nothing_there p i h = omega (arith, h.2)

pub kept_none : (region : Cube) (left : List Candidate) → KeptFirst region left [] 0
kept_none region left = record { among = λ p i range inside h. absurd (nothing_there p i h); first = λ k below. absurd (omega arith) }

pub kept_more : (region : Cube) (left kept new : List Candidate) (n : ℕ) (c : Candidate) → n < length left → c ≡ get_or left n c
    → AddsWithin region c kept new → KeptFirst region left kept n → KeptFirst region left new (n + 1)
kept_more region left kept new n c below is adds f = record {
  among = λ p i range inside h. elim ((adds p range inside i).0 h) [
    | inl old ↦ f.among p i range inside old
    | inr fresh ↦ subst (λ (x : ℕ). IsThere left p x) fresh.0 (there_at left n c p below is fresh.1)
  ];
  first = below_more (λ k. HoldsAt (λ (x : Candidate). (p : Point) → InRange p → IsIn p region → IsInSome (cubes_of x) p → IsThere new p x.set) left k) n
      (λ k lt d p range inside has. (adds p range inside (get_or left k d).set).1 (inl (f.first k lt d p range inside has)))
      (at_read left (λ (x : Candidate). (p : Point) → InRange p → IsIn p region → IsInSome (cubes_of x) p → IsThere new p x.set) n c below is
      (λ p range inside has. (adds p range inside c.set).1 (inr (refl, has))));
}

pub kept_all : (region : Cube) (left kept : List Candidate) (n : ℕ) → length left ≤ n → KeptFirst region left kept n → KeepsAll region left kept
kept_all region left kept n all f = λ p range inside i. (
  f.among p i range inside,
  λ h.
      let lt : h.0 < n = omega (arith, h.2) in
      let at = subst (λ (x : Candidate). (p : Point) → InRange p → IsIn p region → IsInSome (cubes_of x) p → IsThere kept p x.set) h.3 (f.first h.0 lt h.1) in
      subst (λ (x : ℕ). IsThere kept p x) h.4.0 (at p range inside h.4.1),
)

-- ---- those above a set that fills the region, if any

pub record WithoutFirst (sets : List CubeSet) (filled : Option ℕ) (left thin : List Candidate) (n : ℕ) : Type 0 where
  pub among : (p : Point) (i : ℕ) → IsThere thin p i → IsThere left p i
  pub leaves : (k : ℕ) → k < n → HoldsAt (λ (c : Candidate). (p : Point) → IsInSome (cubes_of c) p → IsThere thin p c.set ⊎ IsAbove sets filled c.set) left k

pub without_none : (sets : List CubeSet) (filled : Option ℕ) (left : List Candidate) → WithoutFirst sets filled left [] 0
without_none sets filled left = record { among = λ p i h. absurd (nothing_there p i h); leaves = λ k below. absurd (omega arith) }

pub without_more : (sets : List CubeSet) (filled : Option ℕ) (left thin new : List Candidate) (n : ℕ) (c : Candidate) → n < length left → c ≡ get_or left n c
    → AddsUnless sets filled c thin new → WithoutFirst sets filled left thin n → WithoutFirst sets filled left new (n + 1)
without_more sets filled left thin new n c below is (inl adds) f = record {
  among = λ p i h. elim ((adds p i).0 h) [
    | inl old ↦ f.among p i old
    | inr fresh ↦ subst (λ (x : ℕ). IsThere left p x) fresh.0 (there_at left n c p below is fresh.1)
  ];
  leaves = below_more (λ k. HoldsAt (λ (x : Candidate). (p : Point) → IsInSome (cubes_of x) p → IsThere new p x.set ⊎ IsAbove sets filled x.set) left k) n
      (λ k lt d p has. elim (f.leaves k lt d p has) [ inl there ↦ inl ((adds p (get_or left k d).set).1 (inl there)) | inr above ↦ inr above ])
      (at_read left (λ (x : Candidate). (p : Point) → IsInSome (cubes_of x) p → IsThere new p x.set ⊎ IsAbove sets filled x.set) n c below is
      (λ p has. inl ((adds p c.set).1 (inr (refl, has)))));
}
without_more sets filled left thin new n c below is (inr unless) f = record {
  among = λ p i h. f.among p i (subst (λ (xs : List Candidate). IsThere xs p i) unless.0 h);
  leaves = below_more (λ k. HoldsAt (λ (x : Candidate). (p : Point) → IsInSome (cubes_of x) p → IsThere new p x.set ⊎ IsAbove sets filled x.set) left k) n
      (λ k lt d p has. elim (f.leaves k lt d p has) [
        | inl there ↦ inl (subst (λ (xs : List Candidate). IsThere xs p (get_or left k d).set) (sym unless.0) there)
        | inr above ↦ inr above
      ])
      (at_read left (λ (x : Candidate). (p : Point) → IsInSome (cubes_of x) p → IsThere new p x.set ⊎ IsAbove sets filled x.set) n c below is
      (λ p has. inr unless.1));
}

pub without_all : (sets : List CubeSet) (filled : Option ℕ) (left thin : List Candidate) (n : ℕ) → length left ≤ n → WithoutFirst sets filled left thin n
    → IsWithoutAbove sets filled left thin
without_all sets filled left thin n all f = record {
  among = f.among;
  leaves = λ p i h.
      let lt : h.0 < n = omega (arith, h.2) in
      let at = subst (λ (x : Candidate). (p : Point) → IsInSome (cubes_of x) p → IsThere thin p x.set ⊎ IsAbove sets filled x.set) h.3 (f.leaves h.0 lt h.1) in
      subst (λ (x : ℕ). IsThere thin p x ⊎ IsAbove sets filled x) h.4.0 (at p h.4.1);
}

-- ---- the choice among fewer

module _ (Below : ℕ → ℕ → Type 0) (irrefl : (i : ℕ) → Below i i → ⊥) (trans : (i j k : ℕ) → Below i j → Below j k → Below i k) where
  module _ (A B : ℕ → Type 0) (m : ℕ) (at : A m) (among : (i : ℕ) → B i → A i) (leaves : (i : ℕ) → A i → B i ⊎ Below m i) where
    still : B m
    still = elim (leaves m at) [ inl there ↦ there | inr bad ↦ absurd (irrefl m bad) ]

    best_up : (i : ℕ) → IsBest Below B i → IsBest Below A i
    best_up i b = record {
      there = among i b.there;
      below = λ j there other. elim (leaves j there) [
        | inl left ↦ b.below j left other
        | inr above ↦ elim (cases_eq m i) [
          | inl same ↦ subst (λ (x : ℕ). Below x j) same above
          | inr apart ↦ trans i m j (b.below m still apart) above
        ]
      ];
    }

    best_down : (i : ℕ) → IsBest Below A i → IsBest Below B i
    best_down i b = record {
      there = elim (leaves i b.there) [
        | inl left ↦ left
        | inr above ↦ elim (cases_eq m i) [
          | inl same ↦ absurd (irrefl i (subst (λ (x : ℕ). Below x i) same above))
          | inr apart ↦ absurd (irrefl m (trans m i m above (b.below m at apart)))
        ]
      ];
      below = λ j there other. b.below j (among j there) other;
    }

    pub settled_up : IsSettled Below B → IsSettled Below A
    settled_up s = λ j there. let found = s m still in (found.0, best_up found.0 found.1)

    pub unsettled_up : IsUnsettled Below B → IsUnsettled Below A
    unsettled_up u = record { one = u.one; one_there = among u.one u.one_there; none_best = λ i b. u.none_best i (best_down i b) }

module _ (Below : ℕ → ℕ → Type 0) (A B : ℕ → Type 0) (same : (i : ℕ) → B i ↔ A i) where
  best_same : (i : ℕ) → IsBest Below B i → IsBest Below A i
  best_same i b = record { there = (same i).0 b.there; below = λ j there other. b.below j ((same j).1 there) other }

  best_back : (i : ℕ) → IsBest Below A i → IsBest Below B i
  best_back i b = record { there = (same i).1 b.there; below = λ j there other. b.below j ((same j).0 there) other }

  pub settled_same : IsSettled Below B → IsSettled Below A
  settled_same s = λ j there. let found = s j ((same j).1 there) in (found.0, best_same found.0 found.1)

  pub unsettled_same : IsUnsettled Below B → IsUnsettled Below A
  unsettled_same u = record { one = u.one; one_there = (same u.one).0 u.one_there; none_best = λ i b. u.none_best i (best_back i b) }

pub carries_kept : (sets : List CubeSet) (region : Cube) (left kept : List Candidate) → KeepsAll region left kept → Carries sets region left kept
carries_kept sets region left kept k = record {
  settled = λ p range inside s. settled_same (IsBelow sets) (IsThere left p) (IsThere kept p) (k p range inside) s;
  unsettled = λ p range inside u. unsettled_same (IsBelow sets) (IsThere left p) (IsThere kept p) (k p range inside) u;
}

pub carries_without : (sets : List CubeSet) (region : Cube) (left thin : List Candidate) (filled : Option ℕ) → IsFilledBy region left filled
    → IsWithoutAbove sets filled left thin → Carries sets region left thin
carries_without sets region left thin None f w = carries_kept sets region left thin (λ p range inside i. (
  w.among p i,
  λ h. elim (w.leaves p i h) [ inl there ↦ there | inr above ↦ absurd above ],
))
carries_without sets region left thin (Some m) f w = record {
  settled = λ p range inside s. settled_up (IsBelow sets) (below_irrefl sets) (below_trans sets) (IsThere left p) (IsThere thin p) m (f p range inside) (w.among p) (w.leaves p) s;
  unsettled = λ p range inside u. unsettled_up (IsBelow sets) (below_irrefl sets) (below_trans sets) (IsThere left p) (IsThere thin p) m (f p range inside) (w.among p) (w.leaves p) u;
}

-- ---- a set that fills the region

pub fills_from : (region : Cube) (cubes : List Cube) (k : ℕ) (cube : Cube) → k < length cubes → cube ≡ get_or cubes k cube → Includes cube region → Fills region cubes
fills_from region cubes k cube below is h = λ p range inside. (k, cube, below, sym is, h p range inside)

pub filled_more : (region : Cube) (left : List Candidate) (n : ℕ) (c : Candidate) (lower : Bool) (found result : Option ℕ) → n < length left → c ≡ get_or left n c
    → (IsTrue lower → Fills region (cubes_of c)) → IsChosen lower c.set found result → IsFilledBy region left found → IsFilledBy region left result
filled_more region left n c true found result below is fills chosen f =
    subst (λ (o : Option ℕ). IsFilledBy region left o) (sym chosen) (λ p range inside. there_at left n c p below is (fills refl p range inside))
filled_more region left n c false found result below is fills chosen f = subst (λ (o : Option ℕ). IsFilledBy region left o) (sym chosen) f

-- ---- the bits that the cubes fix

-- No cube of the first n candidates fixes an open bit, or the bits are open.
abbrev pub TalliedFirst : Cube → List Candidate → ℕ → Option Point → Type 0
TalliedFirst region left n None = (k : ℕ) → k < n → HoldsAt (λ (c : Candidate). All (FixesNoMore region) (cubes_of c)) left k
TalliedFirst region left n (Some bits) = IsOpenBits region bits

pub tallied_begun : (region : Cube) (left : List Candidate) → TalliedFirst region left 0 None
tallied_begun region left = λ k below. absurd (omega arith)

pub tallied_open : (region : Cube) (left : List Candidate) (n : ℕ) (now : Option Point) → TalliedFirst region left n now → IsOpenIfSome region now
tallied_open region left n None f = tt
tallied_open region left n (Some bits) f = f

pub open_more : (region : Cube) (cubes : List Cube) (now next : Option Point) → AreWeighed region cubes now next → IsOpenIfSome region now → IsOpenIfSome region next
open_more region cubes now None after f = tt
open_more region cubes now (Some bits) after f = elim after [
  | inl kept ↦ subst (IsOpenIfSome region) kept f
  | inr new ↦ new
]

pub halves_some : (region : Cube) (now : Option Point) (halves : Option (Cube × Cube)) → MatchOption halves (now ≡ None) (λ h. IsHalved region h.0 h.1)
    → IfSome halves (λ h. IsHalved region h.0 h.1)
halves_some region now None h = tt
halves_some region now (Some halves) h = h

pub tallied_more : (region : Cube) (left : List Candidate) (n : ℕ) (c : Candidate) (now next : Option Point) → n < length left → c ≡ get_or left n c
    → AreWeighed region (cubes_of c) now next → TalliedFirst region left n now → TalliedFirst region left (n + 1) next
tallied_more region left n c now None below is after f =
    below_more (λ k. HoldsAt (λ (x : Candidate). All (FixesNoMore region) (cubes_of x)) left k) n (subst (λ (o : Option Point). TalliedFirst region left n o) after.0 f)
    (at_read left (λ (x : Candidate). All (FixesNoMore region) (cubes_of x)) n c below is after.1)
tallied_more region left n c now (Some bits) below is after f = elim after [
  | inl kept ↦ subst (λ (o : Option Point). TalliedFirst region left n o) kept f
  | inr new ↦ new
]

constant_in : (region : Cube) (cubes : List Cube) (p q : Point) → IsIn p region → IsIn q region → All (FixesNoMore region) cubes → IsInSome cubes p → IsInSome cubes q
constant_in region cubes p q in_p in_q all some =
    (some.0, some.1, some.2, some.3, (subst (FixesNoMore region) some.3 (all some.0 some.1 some.2)).same p q in_p in_q some.4)

tallied_all : (region : Cube) (left : List Candidate) (n : ℕ) → length left ≤ n → TalliedFirst region left n None → IsConstant region left
tallied_all region left n all f = λ p q in_p in_q i h.
    let lt : h.0 < n = omega (arith, h.2) in
    let at = subst (λ (x : Candidate). All (FixesNoMore region) (cubes_of x)) h.3 (f h.0 lt h.1) in
    (h.0, h.1, h.2, h.3, (h.4.0, constant_in region (cubes_of h.1) p q in_p in_q at h.4.1))

pub tallied_halves : (region : Cube) (left : List Candidate) (n : ℕ) (now : Option Point) (halves : Option (Cube × Cube)) → length left ≤ n → TalliedFirst region left n now
    → MatchOption halves (now ≡ None) (λ h. IsHalved region h.0 h.1) → MatchOption halves (IsConstant region left) (λ h. IsHalved region h.0 h.1)
tallied_halves region left n now None all f none = tallied_all region left n all (subst (λ (o : Option Point). TalliedFirst region left n o) none f)
tallied_halves region left n now (Some h) all f halved = halved

-- ---- the choice at one point

pub none_first : (left : List Candidate) (p : Point) → (k : ℕ) → k < 0 → HoldsAt (λ (c : Candidate). IsInSome (cubes_of c) p → ⊥) left k
none_first left p = λ k below. absurd (omega arith)

pub none_there : (left : List Candidate) (p : Point) (n : ℕ) → length left ≤ n → ((k : ℕ) → k < n → HoldsAt (λ (c : Candidate). IsInSome (cubes_of c) p → ⊥) left k) → IsNoneThere left p
none_there left p n all f = λ i h.
    let lt : h.0 < n = omega (arith, h.2) in
    subst (λ (x : Candidate). IsInSome (cubes_of x) p → ⊥) h.3 (f h.0 lt h.1) h.4.1

pub beside_from : (sets : List CubeSet) (p : Point) (set : ℕ) (other : Candidate) (below : Bool) → IsInSome (cubes_of other) p → (other.set ≢ set)
    → IsTrue below ↔ IsBelow sets set other.set → StandsBeside sets p set other (not below)
beside_from sets p set other true inside ne iff = λ i o. iff.0 refl
beside_from sets p set other false inside ne iff = (inside, ne, λ b. false≢true (iff.1 b))

pub lowest_all : (sets : List CubeSet) (left : List Candidate) (p : Point) (set n : ℕ) → length left ≤ n
    → ((k : ℕ) → k < n → HoldsAt (λ (c : Candidate). IsInSome (cubes_of c) p → c.set ≢ set → IsBelow sets set c.set) left k) → IsLowest sets left p set
lowest_all sets left p set n all f = λ j h ne.
    let lt : h.0 < n = omega (arith, h.2) in
    let at = subst (λ (x : Candidate). IsInSome (cubes_of x) p → x.set ≢ set → IsBelow sets set x.set) h.3 (f h.0 lt h.1) in
    subst (λ (x : ℕ). IsBelow sets set x) h.4.0 (at h.4.1 (λ e. ne (sym h.4.0 ∙ e)))

pub not_lowest : (sets : List CubeSet) (left : List Candidate) (p : Point) (set n : ℕ) (c : Candidate) → n < length left → c ≡ get_or left n c
    → IsInSome (cubes_of c) p → c.set ≢ set → (IsBelow sets set c.set → ⊥) → IsLowest sets left p set → ⊥
not_lowest sets left p set n c below is inside ne out low = out (low c.set (there_at left n c p below is inside) ne)

pub best_from : (sets : List CubeSet) (left : List Candidate) (p : Point) (n : ℕ) (c : Candidate) → n < length left → c ≡ get_or left n c
    → IsInSome (cubes_of c) p → IsLowest sets left p c.set → HasBest sets left p true
best_from sets left p n c below is inside low = (c.set, record { there = there_at left n c p below is inside; below = low })

pub best_none : (sets : List CubeSet) (left : List Candidate) (p : Point) (n : ℕ) → length left ≤ n
    → ((k : ℕ) → k < n → HoldsAt (λ (c : Candidate). IsInSome (cubes_of c) p × IsLowest sets left p c.set → ⊥) left k) → HasBest sets left p false
best_none sets left p n all f = λ i b.
    let h = b.there in
    let lt : h.0 < n = omega (arith, h.2) in
    let at = subst (λ (x : Candidate). IsInSome (cubes_of x) p × IsLowest sets left p x.set → ⊥) h.3 (f h.0 lt h.1) in
    at (h.4.1, λ j there ne. subst (λ (x : ℕ). IsBelow sets x j) (sym h.4.0) (b.below j there (λ e. ne (e ∙ sym h.4.0))))

-- ---- answers

pub settled_by_none : (sets : List CubeSet) (left : List Candidate) (p : Point) → IsNoneThere left p → IsSettled (IsBelow sets) (IsThere left p)
settled_by_none sets left p none = λ j there. absurd (none j there)

only_one : (a b n : ℕ) → n ≤ 1 → a < n → b < n → a ≡ b
only_one a b n l f g = omega arith

same_there : (left : List Candidate) (p : Point) (i j : ℕ) → length left ≤ 1 → IsThere left p i → IsThere left p j → i ≡ j
same_there left p i j one f g =
    let place : f.0 ≡ g.0 = only_one f.0 g.0 (length left) one f.2 g.2 in
    sym f.4.0 ∙ ap (λ (c : Candidate). c.set) (sym f.3 ∙ read_same left f.0 g.0 f.1 g.1 f.2 place ∙ g.3) ∙ g.4.0
  where
    read_same : (left : List Candidate) (k l : ℕ) (d e : Candidate) → k < length left → k ≡ l → get_or left k d ≡ get_or left l e
    read_same left k l d e below same = get_or_default left k d e below ∙ ap (λ (n : ℕ). get_or left n e) same

pub answer_one : (sets : List CubeSet) (region : Cube) (left : List Candidate) → length left ≤ 1 → IsAnswer sets region left None
answer_one sets region left one = λ p range inside j there.
    (j, record { there = there; below = λ k other ne. absurd (ne (same_there left p k j one other there)) })

pub answer_carried : (sets : List CubeSet) (region : Cube) (left thin : List Candidate) → Carries sets region left thin → (answer : Option Point)
    → IsAnswer sets region thin answer → IsAnswer sets region left answer
answer_carried sets region left thin c None h = λ p range inside. c.settled p range inside (h p range inside)
answer_carried sets region left thin c (Some p) h = (h.0, h.1, c.unsettled p h.0 h.1 h.2)

pub answer_low : (sets : List CubeSet) (region : Cube) (left : List Candidate) (low high : Cube) (in_low : List Candidate) (p : Point) → IsHalved region low high
    → KeepsAll low left in_low → IsAnswer sets low in_low (Some p) → IsAnswer sets region left (Some p)
answer_low sets region left low high in_low p s k h = (
  h.0,
  s.low_within p h.1,
  (carries_kept sets low left in_low k).unsettled p h.0 h.1 h.2,
)

pub answer_high : (sets : List CubeSet) (region : Cube) (left : List Candidate) (low high : Cube) (in_low in_high : List Candidate) (answer : Option Point)
    → IsHalved region low high → KeepsAll low left in_low → KeepsAll high left in_high → IsAnswer sets low in_low None → IsAnswer sets high in_high answer
    → IsAnswer sets region left answer
answer_high sets region left low high in_low in_high None s k l f g = λ p range inside. elim (s.whole p inside) [
  | inl there ↦ (carries_kept sets low left in_low k).settled p range there (f p range there)
  | inr there ↦ (carries_kept sets high left in_high l).settled p range there (g p range there)
]
answer_high sets region left low high in_low in_high (Some p) s k l f g = (
  g.0,
  s.high_within p g.1,
  (carries_kept sets high left in_high l).unsettled p g.0 g.1 g.2,
)

pub answer_found : (sets : List CubeSet) (region : Cube) (left : List Candidate) (low high : Cube) (in_low : List Candidate) (answer : Option Point)
    → IsHalved region low high → KeepsAll low left in_low → IsAnswer sets low in_low answer → (answer ≡ None → ⊥) → IsAnswer sets region left answer
answer_found sets region left low high in_low None s k h some = absurd (some refl)
answer_found sets region left low high in_low (Some p) s k h some = answer_low sets region left low high in_low p s k h

constant_settled : (sets : List CubeSet) (region : Cube) (left : List Candidate) (p q : Point) → IsConstant region left → IsIn p region → IsIn q region
    → IsSettled (IsBelow sets) (IsThere left p) → IsSettled (IsBelow sets) (IsThere left q)
constant_settled sets region left p q constant in_p in_q s =
    settled_same (IsBelow sets) (IsThere left q) (IsThere left p) (λ i. (constant p q in_p in_q i, constant q p in_q in_p i)) s

pub answer_settled : (sets : List CubeSet) (region : Cube) (left : List Candidate) (p : Point) → IsConstant region left → IsIn p region
    → IsSettled (IsBelow sets) (IsThere left p) → IsAnswer sets region left None
answer_settled sets region left p constant in_p s = λ q range in_q. constant_settled sets region left p q constant in_p in_q s

pub settled_by_best : (sets : List CubeSet) (left : List Candidate) (p : Point) → HasBest sets left p true → IsSettled (IsBelow sets) (IsThere left p)
settled_by_best sets left p best = λ j there. best

pub answer_unsettled : (sets : List CubeSet) (region : Cube) (left : List Candidate) (p : Point) (one : Option ℕ) → InRange p → IsIn p region → (one ≡ None → ⊥)
    → MatchOption one (IsNoneThere left p) (IsThere left p) → HasBest sets left p false → IsAnswer sets region left (Some p)
answer_unsettled sets region left p None range inside some h none = absurd (some refl)
answer_unsettled sets region left p (Some j) range inside some h none = (range, inside, record { one = j; one_there = h; none_best = none })

pub is_none_there : (left : List Candidate) (p : Point) (one : Option ℕ) → is_some one ≡ false → MatchOption one (IsNoneThere left p) (IsThere left p) → IsNoneThere left p
is_none_there left p None e h = h
is_none_there left p (Some j) e h = absurd (cc)

pub is_none_found : (found : Option Point) → false ≡ is_some found → found ≡ None
is_none_found None e = refl
is_none_found (Some p) e = absurd (cc)

pub not_none : {A : Type 0} → (one : Option A) → is_some one ≡ true → one ≡ None → ⊥
not_none None e f = cc
not_none (Some j) e f = cc

-- ---- two sets, one below the other

pub any_or_none : {A : Type 0} (P : A → Type 0) → ((x : A) → P x ⊎ (P x → ⊥)) → (xs : List A) → Any P xs ⊎ (Any P xs → ⊥)
any_or_none P decide [] = inr (λ h. omega (arith, h.2))
any_or_none P decide (x ∷ xs) = elim (decide x) [
  | inl here ↦ inl (0, x, omega arith, refl, here)
  | inr out ↦ elim (any_or_none P decide xs) [
    | inl h ↦ inl (suc h.0, h.1, omega (arith, h.2), h.3, h.4)
    | inr none ↦ inr (λ h. neither P x xs out none h.0 h.1 h.2 h.3 h.4)
  ]
]
  where
    neither : {A : Type 0} (P : A → Type 0) (x : A) (xs : List A) → (P x → ⊥) → (Any P xs → ⊥) → (k : ℕ) (y : A) → k < length (x ∷ xs) → get_or (x ∷ xs) k y ≡ y → P y → ⊥
    neither P x xs out none zero y below is holds = out (subst P (sym is) holds)
    neither P x xs out none (suc k) y below is holds = none (k, y, omega (arith, below), is, holds)

pub some_or_none : (cubes : List Cube) (p : Point) → IsInSome cubes p ⊎ (IsInSome cubes p → ⊥)
some_or_none cubes p = any_or_none (λ c. IsIn p c) (λ c. in_or_out p c) cubes

there_or_not : (left : List Candidate) (p : Point) (i : ℕ) → IsThere left p i ⊎ (IsThere left p i → ⊥)
there_or_not left p i = any_or_none (λ (c : Candidate). (c.set ≡ i) × IsInSome (cubes_of c) p) (λ c. one c) left
  where
    one : (c : Candidate) → ((c.set ≡ i) × IsInSome (cubes_of c) p) ⊎ ((c.set ≡ i) × IsInSome (cubes_of c) p → ⊥)
    one c = elim (cases_eq c.set i) [
      | inr other ↦ inr (λ h. other h.0)
      | inl same ↦ elim (some_or_none (cubes_of c) p) [ inl inside ↦ inl (same, inside) | inr out ↦ inr (λ h. out h.1) ]
    ]

best_low : (sets : List CubeSet) (left : List Candidate) (p : Point) (n : AreNested sets left) → IsThere left p n.low → IsBest (IsBelow sets) (IsThere left p) n.low
best_low sets left p n there = record {
  there = there;
  below = λ j other ne. elim (n.only p j other) [
    | inl low ↦ absurd (ne low)
    | inr high ↦ subst (λ (x : ℕ). IsBelow sets n.low x) (sym high) n.below
  ];
}

best_high : (sets : List CubeSet) (left : List Candidate) (p : Point) (n : AreNested sets left) → (IsThere left p n.low → ⊥) → IsThere left p n.high
    → IsBest (IsBelow sets) (IsThere left p) n.high
best_high sets left p n out there = record {
  there = there;
  below = λ j other ne. elim (n.only p j other) [
    | inl low ↦ absurd (out (subst (λ (x : ℕ). IsThere left p x) low other))
    | inr high ↦ absurd (ne high)
  ];
}

pub answer_nested : (sets : List CubeSet) (region : Cube) (left : List Candidate) → AreNested sets left → IsAnswer sets region left None
answer_nested sets region left n = λ p range inside j there. elim (there_or_not left p n.low) [
  | inl low ↦ (n.low, best_low sets left p n low)
  | inr out ↦ elim (n.only p j there) [
    | inl low ↦ absurd (out (subst (λ (x : ℕ). IsThere left p x) low there))
    | inr high ↦ (n.high, best_high sets left p n out (subst (λ (x : ℕ). IsThere left p x) high there))
  ]
]

one_of_two : (left : List Candidate) (a b : Candidate) → length left ≡ 2 → a ≡ get_or left 0 a → b ≡ get_or left 1 b
    → (p : Point) (i : ℕ) → IsThere left p i → (i ≡ a.set) ⊎ (i ≡ b.set)
one_of_two left a b two a_is b_is p i h = elim (cases_eq h.0 0) [
  | inl first ↦ inl (sym h.4.0 ∙ ap (λ (c : Candidate). c.set) (sym h.3 ∙ get_or_default left h.0 h.1 a h.2 ∙ ap (λ (k : ℕ). get_or left k a) first ∙ sym a_is))
  | inr other ↦
      let second : h.0 ≡ 1 = omega (arith, h.2, two, other) in
      inr (sym h.4.0 ∙ ap (λ (c : Candidate). c.set) (sym h.3 ∙ get_or_default left h.0 h.1 b h.2 ∙ ap (λ (k : ℕ). get_or left k b) second ∙ sym b_is))
]

module _ (sets : List CubeSet) (left : List Candidate) (a b : Candidate) (two : length left ≡ 2) (a_is : a ≡ get_or left 0 a) (b_is : b ≡ get_or left 1 b) where
  pub first_below : IsBelow sets (get_or left 0 a).set (get_or left 1 b).set → AreNested sets left
  first_below h = record {
    low = (get_or left 0 a).set;
    high = (get_or left 1 b).set;
    below = h;
    only = λ p i there. elim (one_of_two left a b two a_is b_is p i there) [
      | inl e ↦ inl (e ∙ ap (λ (c : Candidate). c.set) a_is)
      | inr e ↦ inr (e ∙ ap (λ (c : Candidate). c.set) b_is)
    ];
  }

  pub second_below : IsBelow sets (get_or left 1 b).set (get_or left 0 a).set → AreNested sets left
  second_below h = record {
    low = (get_or left 1 b).set;
    high = (get_or left 0 a).set;
    below = h;
    only = λ p i there. elim (one_of_two left a b two a_is b_is p i there) [
      | inl e ↦ inr (e ∙ ap (λ (c : Candidate). c.set) a_is)
      | inr e ↦ inl (e ∙ ap (λ (c : Candidate). c.set) b_is)
    ];
  }
