-- Covers that are added and kept, and what their heads fix.
use Rattle.std.proofs.Common.{◌≡◌, ◌↔◌, ℕ, ◌+◌, ◌<◌, ◌≤◌, ◌⊎◌, MatchOption, List, length, get_or, [], ◌∷◌, ◌++◌, below_more, Option, Some, None, arith, sym, inl, inr, subst}
use Rattle.std.specs.List.{All, Any, HoldsAt}
use Rattle.std.proofs.lemmas.List.Elements.{Contains-append_left, Contains-push_cases, at_read}
use Rattle.std.proofs.lemmas.List.Quantifiers.{Any-push}
use Rattle.sl_cube.specs.declared.Cube.{Cube}
use Rattle.sl_cube.specs.declared.Point.{Point}
use Rattle.sl_cube.specs.Points.{InRange, IsIn, IsInSome}
use Rattle.sl_cube.specs.Cubes.{DoMeet, Includes}
use Rattle.sl_cube.specs.Search.{IsHalved, FixesNoMore}
use Rattle.sl_cube.specs.Tallies.{IsOpenBits, IsOpenIfSome, AreWeighed}
use Rattle.sl_cube_tails.specs.Covers.{AddsOver, AddsTail, AreConstant, CoversAll, KeepsCovers}
use Rattle.sl_cube_tails.specs.Tails.{IsCovered}
use Rattle.sl_cube_tails.specs.declared.covers.Cover.{Cover}

-- ---- one more

abbrev Has : Point → Point → Cover → Type 0
Has p q c = IsIn p c.head × IsIn q c.tail

at_one : (covers : List Cover) (k : ℕ) (c : Cover) (p q : Point) → k < length covers → c ≡ get_or covers k c → Has p q c → IsCovered covers p q
at_one covers k c p q below is has = (k, c, below, sym is, has)

old_one : {A : Type 0} (P : A → Type 0) (xs : List A) (x : A) → Any P xs → Any P (xs ++ x ∷ [])
old_one P xs x h =
    let there = Contains-append_left xs (x ∷ []) h.1 (h.0, h.2, h.3) in
    (there.0, h.1, there.1, there.2, h.4)

pushed_one : {A : Type 0} (P : A → Type 0) (xs : List A) (x : A) → Any P (xs ++ x ∷ []) → Any P xs ⊎ P x
pushed_one P xs x h = elim (Contains-push_cases xs x h.1 (h.0, h.2, h.3)) [
  | inl k ↦ inl (k.0, h.1, k.1, k.2, h.4)
  | inr e ↦ inr (subst P (sym e) h.4)
]

pub adds_over : (region : Cube) (c : Cover) (old new : List Cover) → new ≡ old ++ c ∷ [] → AddsOver region c old new
adds_over region c old new e = subst (λ (l : List Cover). AddsOver region c old l) (sym e) (λ p range inside q. (
  pushed_one (Has p q) old c,
  λ s. elim s [ inl h ↦ old_one (Has p q) old c h | inr h ↦ Any-push (Has p q) old c h ],
))

pub adds_apart : (region : Cube) (c : Cover) (old : List Cover) → (DoMeet region c.head → ⊥) → AddsOver region c old old
adds_apart region c old apart = λ p range inside q. (
  inl,
  λ s. elim s [ inl h ↦ h | inr h ↦ absurd (apart (p, range, inside, h.0)) ],
)

pub adds_tail : (p : Point) (c : Cover) (old new : List Cube) → IsIn p c.head → new ≡ old ++ c.tail ∷ [] → AddsTail p c old new
adds_tail p c old new has e = subst (λ (l : List Cube). AddsTail p c old l) (sym e) (λ q. (
  λ h. elim (pushed_one (λ x. IsIn q x) old c.tail h) [ inl before ↦ inl before | inr now ↦ inr (has, now) ],
  λ s. elim s [ inl h ↦ old_one (λ x. IsIn q x) old c.tail h | inr h ↦ Any-push (λ x. IsIn q x) old c.tail h.1 ],
))

pub adds_no_tail : (p : Point) (c : Cover) (old : List Cube) → (IsIn p c.head → ⊥) → AddsTail p c old old
adds_no_tail p c old out = λ q. (inl, λ s. elim s [ inl h ↦ h | inr h ↦ absurd (out h.0) ])

-- ---- those of a list

none_in : {A : Type 0} (P : A → Type 0) → Any P [] → ⊥
none_in P h = omega (arith, h.2)

pub record KeptFirst (region : Cube) (covers kept : List Cover) (n : ℕ) : Type 0 where
  pub among : (p q : Point) → InRange p → IsIn p region → IsCovered kept p q → IsCovered covers p q
  pub first : (k : ℕ) → k < n → HoldsAt (λ (c : Cover). (p q : Point) → InRange p → IsIn p region → Has p q c → IsCovered kept p q) covers k

pub kept_none : (region : Cube) (covers : List Cover) → KeptFirst region covers [] 0
kept_none region covers = record { among = λ p q range inside h. absurd (none_in (Has p q) h); first = λ k below. absurd (omega arith) }

pub kept_more : (region : Cube) (covers kept new : List Cover) (n : ℕ) (c : Cover) → n < length covers → c ≡ get_or covers n c → AddsOver region c kept new
    → KeptFirst region covers kept n → KeptFirst region covers new (n + 1)
kept_more region covers kept new n c below is adds f = record {
  among = λ p q range inside h. elim ((adds p range inside q).0 h) [
    | inl old ↦ f.among p q range inside old
    | inr fresh ↦ at_one covers n c p q below is fresh
  ];
  first = below_more (λ k. HoldsAt (λ (x : Cover). (p q : Point) → InRange p → IsIn p region → Has p q x → IsCovered new p q) covers k) n
      (λ k lt d p q range inside has. (adds p range inside q).1 (inl (f.first k lt d p q range inside has)))
      (at_read covers (λ (x : Cover). (p q : Point) → InRange p → IsIn p region → Has p q x → IsCovered new p q) n c below is
      (λ p q range inside has. (adds p range inside q).1 (inr has)));
}

pub kept_all : (region : Cube) (covers kept : List Cover) (n : ℕ) → length covers ≤ n → KeptFirst region covers kept n → KeepsCovers region covers kept
kept_all region covers kept n all f = λ p range inside q. (
  f.among p q range inside,
  λ h.
      let lt : h.0 < n = omega (arith, h.2) in
      let at = subst (λ (x : Cover). (p q : Point) → InRange p → IsIn p region → Has p q x → IsCovered kept p q) h.3 (f.first h.0 lt h.1) in
      at p q range inside h.4,
)

pub record TailsFirst (point : Point) (covers : List Cover) (tails : List Cube) (n : ℕ) : Type 0 where
  pub among : (q : Point) → IsInSome tails q → IsCovered covers point q
  pub first : (k : ℕ) → k < n → HoldsAt (λ (c : Cover). (q : Point) → Has point q c → IsInSome tails q) covers k

pub tails_none : (point : Point) (covers : List Cover) → TailsFirst point covers [] 0
tails_none point covers = record { among = λ q h. absurd (none_in (λ x. IsIn q x) h); first = λ k below. absurd (omega arith) }

pub tails_more : (point : Point) (covers : List Cover) (tails new : List Cube) (n : ℕ) (c : Cover) → n < length covers → c ≡ get_or covers n c → AddsTail point c tails new
    → TailsFirst point covers tails n → TailsFirst point covers new (n + 1)
tails_more point covers tails new n c below is adds f = record {
  among = λ q h. elim ((adds q).0 h) [
    | inl old ↦ f.among q old
    | inr fresh ↦ at_one covers n c point q below is fresh
  ];
  first = below_more (λ k. HoldsAt (λ (x : Cover). (q : Point) → Has point q x → IsInSome new q) covers k) n
      (λ k lt d q has. (adds q).1 (inl (f.first k lt d q has)))
      (at_read covers (λ (x : Cover). (q : Point) → Has point q x → IsInSome new q) n c below is (λ q has. (adds q).1 (inr has)));
}

pub tails_all : (point : Point) (covers : List Cover) (tails : List Cube) (n : ℕ) → length covers ≤ n → TailsFirst point covers tails n
    → (q : Point) → IsInSome tails q ↔ IsCovered covers point q
tails_all point covers tails n all f = λ q. (
  f.among q,
  λ h.
      let lt : h.0 < n = omega (arith, h.2) in
      let at = subst (λ (x : Cover). (q : Point) → Has point q x → IsInSome tails q) h.3 (f.first h.0 lt h.1) in
      at q h.4,
)

pub all_by : (region tails : Cube) (covers : List Cover) (n : ℕ) (c : Cover) → n < length covers → c ≡ get_or covers n c → Includes c.head region → Includes c.tail tails
    → CoversAll region tails covers
all_by region tails covers n c below is head tail = λ p range inside q range_q inside_q. at_one covers n c p q below is (head p range inside, tail q range_q inside_q)

-- ---- the bits that heads fix

-- No head of the first n covers fixes an open bit, or the bits are open.
abbrev pub TalliedFirst : Cube → List Cover → ℕ → Option Point → Type 0
TalliedFirst region covers n None = (k : ℕ) → k < n → HoldsAt (λ (c : Cover). FixesNoMore region c.head) covers k
TalliedFirst region covers n (Some bits) = IsOpenBits region bits

pub tallied_begun : (region : Cube) (covers : List Cover) → TalliedFirst region covers 0 None
tallied_begun region covers = λ k below. absurd (omega arith)

pub tallied_open : (region : Cube) (covers : List Cover) (n : ℕ) (now : Option Point) → TalliedFirst region covers n now → IsOpenIfSome region now
tallied_open region covers n None f = tt
tallied_open region covers n (Some bits) f = f

-- what all of a list of one cube have, this has
only : (P : Cube → Type 0) (c : Cube) → All P (c ∷ []) → P c
only P c all = all 0 c (omega arith)

pub tallied_more : (region : Cube) (covers : List Cover) (n : ℕ) (c : Cover) (now next : Option Point) → n < length covers → c ≡ get_or covers n c
    → AreWeighed region (c.head ∷ []) now next → TalliedFirst region covers n now → TalliedFirst region covers (n + 1) next
tallied_more region covers n c now None below is after f =
    below_more (λ k. HoldsAt (λ (x : Cover). FixesNoMore region x.head) covers k) n (subst (λ (o : Option Point). TalliedFirst region covers n o) after.0 f)
    (at_read covers (λ (x : Cover). FixesNoMore region x.head) n c below is (only (FixesNoMore region) c.head after.1))
tallied_more region covers n c now (Some bits) below is after f = elim after [
  | inl kept ↦ subst (λ (o : Option Point). TalliedFirst region covers n o) kept f
  | inr new ↦ new
]

tallied_all : (region : Cube) (covers : List Cover) (n : ℕ) → length covers ≤ n → TalliedFirst region covers n None → AreConstant region covers
tallied_all region covers n all f = λ p other q in_p in_other h.
    let lt : h.0 < n = omega (arith, h.2) in
    let at = subst (λ (x : Cover). FixesNoMore region x.head) h.3 (f h.0 lt h.1) in
    (h.0, h.1, h.2, h.3, (at.same p other in_p in_other h.4.0, h.4.1))

pub tallied_halves : (region : Cube) (covers : List Cover) (n : ℕ) (now : Option Point) (halves : Option (Cube × Cube)) → length covers ≤ n
    → TalliedFirst region covers n now → MatchOption halves (now ≡ None) (λ h. IsHalved region h.0 h.1)
    → MatchOption halves (AreConstant region covers) (λ h. IsHalved region h.0 h.1)
tallied_halves region covers n now None all f none = tallied_all region covers n all (subst (λ (o : Option Point). TalliedFirst region covers n o) none f)
tallied_halves region covers n now (Some h) all f halved = halved
