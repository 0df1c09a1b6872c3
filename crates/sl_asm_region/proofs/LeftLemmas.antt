-- What is left of a union: regions that are added whole, taken as covered, or split.
use Rattle.std.proofs.Common.{◌≡◌, ℕ, ◌+◌, ◌<◌, ◌≤◌, ◌⊎◌, List, length, get_or, [], ◌∷◌, ◌++◌, below_more, arith, sym, ap, inl, inr, subst}
use Rattle.std.specs.List.{HoldsAt}
use Rattle.std.proofs.lemmas.List.Elements.{at_read, Contains-append_left, Contains-push_cases}
use Rattle.std.proofs.lemmas.List.Quantifiers.{Any-push}
use Rattle.sl_cube.specs.declared.Cube.{Cube}
use Rattle.sl_cube.specs.declared.Point.{Point}
use Rattle.sl_cube.specs.Points.{InRange, IsIn, IsInSome}
use Rattle.sl_cube.specs.Cubes.{Includes, Covers}
use Rattle.sl_cube.specs.Search.{KeepsMeeting, IsSplit, IsSingle}
use Rattle.sl_cube.proofs.OutsideLemmas.{in_some}
use Rattle.sl_asm_region.specs.Left.{IsLeft, IsClear, IsGrown, Adds, IsWithinSome, IsLeftAt, IsNear}

pub one_contains : (cubes : List Cube) (k : ℕ) (c region : Cube) → k < length cubes → c ≡ get_or cubes k c → Includes c region → IsWithinSome cubes region
one_contains cubes k c region below is includes = λ p range h. in_some cubes k c p below is (includes p range h)

nothing : (cubes : List Cube) (p : Point) → length cubes ≡ 0 → IsInSome cubes p → ⊥
nothing cubes p none some = let lt = some.2 in omega (arith, lt, none)

pub clear_from : (cubes others near : List Cube) (cube : Cube) → KeepsMeeting cube others near → length near ≡ 0 → Covers cubes cube → IsClear cubes others cube
clear_from cubes others near cube keeps none covers = λ p range h. record {
  here = covers p range h;
  outside = λ some. nothing near p none ((keeps p range h).1 some);
}

pub clear_near : (cubes others near : List Cube) (region : Cube) → IsWithinSome cubes region → KeepsMeeting region others near → length near ≡ 0 → IsClear cubes others region
clear_near cubes others near region within keeps none = λ p range h. record {
  here = within p range h;
  outside = λ some. nothing near p none ((keeps p range h).1 some);
}

pub keeps_both : (region : Cube) (others near kept : List Cube) → KeepsMeeting region others near → KeepsMeeting region near kept → KeepsMeeting region others kept
keeps_both region others near kept f g = λ p range h. (λ some. (f p range h).0 ((g p range h).0 some), λ some. (g p range h).1 ((f p range h).1 some))

pub keeps_within : (region half : Cube) (others kept : List Cube) → ((p : Point) → IsIn p half → IsIn p region) → KeepsMeeting region others kept → KeepsMeeting half others kept
keeps_within region half others kept inside f = λ p range h. f p range (inside p h)

pub within_half : (cubes : List Cube) (region half : Cube) → ((p : Point) → IsIn p half → IsIn p region) → IsWithinSome cubes region → IsWithinSome cubes half
within_half cubes region half inside f = λ p range h. f p range (inside p h)

pub keeps_same : (region : Cube) (others : List Cube) → KeepsMeeting region others others
keeps_same region others = λ p range h. (λ some. some, λ some. some)

-- ---- growing

pub grown_self : (cubes others : List Cube) (region : Cube) → IsGrown cubes others region region
grown_self cubes others region = record { around = λ p h. h; clear = λ f. f }

pub grown_more : (cubes others : List Cube) (region big new : Cube) → IsGrown cubes others region big → IsGrown cubes others big new → IsGrown cubes others region new
grown_more cubes others region big new f g = record { around = λ p h. g.around p (f.around p h); clear = λ h. g.clear (f.clear h) }

pub grown_clear : (cubes others : List Cube) (region big : Cube) → ((p : Point) → IsIn p region → IsIn p big) → IsClear cubes others big → IsGrown cubes others region big
grown_clear cubes others region big around clear = record { around = around; clear = λ f. clear }

-- ---- adding

old_in : (xs : List Cube) (c : Cube) (p : Point) → IsInSome xs p → IsInSome (xs ++ c ∷ []) p
old_in xs c p h = let there = Contains-append_left xs (c ∷ []) h.1 (h.0, h.2, h.3) in (there.0, h.1, there.1, there.2, h.4)

new_in : (xs : List Cube) (c : Cube) (p : Point) → IsIn p c → IsInSome (xs ++ c ∷ []) p
new_in xs c p h = Any-push (λ (x : Cube). IsIn p x) xs c h

in_cases : (xs : List Cube) (c : Cube) (p : Point) → IsInSome (xs ++ c ∷ []) p → IsInSome xs p ⊎ IsIn p c
in_cases xs c p h = elim (Contains-push_cases xs c h.1 (h.0, h.2, h.3)) [
  | inl old ↦ inl (old.0, h.1, old.1, old.2, h.4)
  | inr e ↦ inr (subst (λ (x : Cube). IsIn p x) (sym e) h.4)
]

pub adds_clear : (cubes others : List Cube) (region big : Cube) (old new : List Cube) → IsClear cubes others region → IsGrown cubes others region big
    → new ≡ old ++ big ∷ [] → Adds cubes others region old new
adds_clear cubes others region big old new clear grown e = record {
  kept = λ p h. subst (λ (xs : List Cube). IsInSome xs p) (sym e) (old_in old big p h);
  sound = λ p range h. elim (in_cases old big p (subst (λ (xs : List Cube). IsInSome xs p) e h)) [
    | inl was ↦ inl was
    | inr fresh ↦ inr (grown.clear clear p range fresh)
  ];
  all = λ p range h outside. subst (λ (xs : List Cube). IsInSome xs p) (sym e) (new_in old big p (grown.around p h));
}

pub adds_none : (cubes others : List Cube) (region : Cube) (old : List Cube) → ((p : Point) → InRange p → IsIn p region → (IsInSome others p → ⊥) → IsInSome old p) → Adds cubes others region old old
adds_none cubes others region old all = record { kept = λ p h. h; sound = λ p range h. inl h; all = all }

pub adds_both : (cubes others : List Cube) (region low high : Cube) (old mid new : List Cube) → IsSplit region low high
    → Adds cubes others low old mid → Adds cubes others high mid new → Adds cubes others region old new
adds_both cubes others region low high old mid new split f g = record {
  kept = λ p h. g.kept p (f.kept p h);
  sound = λ p range h. elim (g.sound p range h) [ inl was ↦ f.sound p range was | inr fresh ↦ inr fresh ];
  all = λ p range h outside. elim (split.whole p h) [ inl in_low ↦ g.kept p (f.all p range in_low outside) | inr in_high ↦ g.all p range in_high outside ];
}

pub covered_out : (cubes others near : List Cube) (region : Cube) (out : List Cube) → KeepsMeeting region others near → IsWithinSome out region ⊎ IsWithinSome near region → Adds cubes others region out out
covered_out cubes others near region out keeps (inl f) = adds_none cubes others region out (λ p range h outside. f p range h)
covered_out cubes others near region out keeps (inr f) = adds_none cubes others region out (λ p range h outside. absurd (outside ((keeps p range h).0 (f p range h))))

pub single_covered : (cubes others kept : List Cube) (region : Cube) (least : Point) (out : List Cube) → KeepsMeeting region others kept → IsSingle region
    → InRange least → IsIn least region → IsInSome kept least → Adds cubes others region out out
single_covered cubes others kept region least out keeps single range inside some = adds_none cubes others region out
    (λ p fits h outside. absurd (outside (subst (λ (q : Point). IsInSome others q) (single least p range fits inside h) ((keeps least range inside).0 some))))

pub single_clear : (cubes others kept : List Cube) (region : Cube) (least : Point) → IsWithinSome cubes region → KeepsMeeting region others kept → IsSingle region
    → InRange least → IsIn least region → (IsInSome kept least → ⊥) → IsClear cubes others region
single_clear cubes others kept region least within keeps single range inside none = λ p fits h. record {
  here = within p fits h;
  outside = λ some. none ((keeps least range inside).1 (subst (λ (q : Point). IsInSome others q) (single p least fits range h inside) some));
}

-- ---- all cubes

pub record LeftFirst (cubes others : List Cube) (n : ℕ) (out : List Cube) : Type 0 where
  pub sound : (p : Point) → InRange p → IsInSome out p → IsLeftAt cubes others p
  pub all : (k : ℕ) → k < n → HoldsAt (λ c. (p : Point) → InRange p → IsIn p c → (IsInSome others p → ⊥) → IsInSome out p) cubes k

pub left_none : (cubes others out : List Cube) → out ≡ [] → LeftFirst cubes others 0 out
left_none cubes others out e = record {
  sound = λ p range h. absurd (nothing out p (ap (λ (xs : List Cube). length xs) e) h);
  all = λ k below. absurd (omega arith);
}

pub left_more : (cubes others : List Cube) (n : ℕ) (c : Cube) (old new : List Cube) → n < length cubes → c ≡ get_or cubes n c
    → Adds cubes others c old new → LeftFirst cubes others n old → LeftFirst cubes others (n + 1) new
left_more cubes others n c old new below is adds f = record {
  sound = λ p range h. elim (adds.sound p range h) [ inl was ↦ f.sound p range was | inr fresh ↦ fresh ];
  all = below_more (λ k. HoldsAt (λ (x : Cube). (p : Point) → InRange p → IsIn p x → (IsInSome others p → ⊥) → IsInSome new p) cubes k) n
      (λ k lt d p range h outside. adds.kept p (f.all k lt d p range h outside))
      (at_read cubes (λ (x : Cube). (p : Point) → InRange p → IsIn p x → (IsInSome others p → ⊥) → IsInSome new p) n c below is adds.all);
}

pub left_all : (cubes others : List Cube) (n : ℕ) (out : List Cube) → length cubes ≤ n → LeftFirst cubes others n out → IsLeft cubes others out
left_all cubes others n out all f = λ p range. (
  f.sound p range,
  λ h.
      let some = h.here in
      let lt : some.0 < n = omega (arith, some.2) in
      subst (λ (x : Cube). (q : Point) → InRange q → IsIn q x → (IsInSome others q → ⊥) → IsInSome out q) some.3 (f.all some.0 lt some.1) p range some.4 h.outside,
)

pub within_one : (cubes : List Cube) (n : ℕ) (c : Cube) → n < length cubes → c ≡ get_or cubes n c → IsWithinSome cubes c
within_one cubes n c below is = λ p range h. in_some cubes n c p below is h

-- ---- a region with what is near

pub near_low : (cubes others near kept : List Cube) (region low high : Cube) → IsNear cubes others region near → KeepsMeeting region near kept → IsSplit region low high → IsNear cubes others low kept
near_low cubes others near kept region low high n keeps split = record {
  within = within_half cubes region low split.low_within n.within;
  keeps = keeps_within region low others kept split.low_within (keeps_both region others near kept n.keeps keeps);
}

pub near_high : (cubes others near kept : List Cube) (region low high : Cube) → IsNear cubes others region near → KeepsMeeting region near kept → IsSplit region low high → IsNear cubes others high kept
near_high cubes others near kept region low high n keeps split = record {
  within = within_half cubes region high split.high_within n.within;
  keeps = keeps_within region high others kept split.high_within (keeps_both region others near kept n.keeps keeps);
}

pub near_first : (cubes others : List Cube) (n : ℕ) (c : Cube) → n < length cubes → c ≡ get_or cubes n c → IsNear cubes others c others
near_first cubes others n c below is = record { within = within_one cubes n c below is; keeps = keeps_same c others }

pub near_clear : (cubes others near kept : List Cube) (region : Cube) → IsNear cubes others region near → KeepsMeeting region near kept → length kept ≡ 0 → IsClear cubes others region
near_clear cubes others near kept region n keeps none = clear_near cubes others kept region n.within (keeps_both region others near kept n.keeps keeps) none

pub near_single : (cubes others near kept : List Cube) (region : Cube) (least : Point) → IsNear cubes others region near → KeepsMeeting region near kept → IsSingle region
    → InRange least → IsIn least region → (IsInSome kept least → ⊥) → IsClear cubes others region
near_single cubes others near kept region least n keeps single range inside none =
    single_clear cubes others kept region least n.within (keeps_both region others near kept n.keeps keeps) single range inside none

pub near_covered : (cubes others near kept : List Cube) (region : Cube) (least : Point) (out : List Cube) → IsNear cubes others region near → KeepsMeeting region near kept → IsSingle region
    → InRange least → IsIn least region → IsInSome kept least → Adds cubes others region out out
near_covered cubes others near kept region least out n keeps single range inside some =
    single_covered cubes others kept region least out (keeps_both region others near kept n.keeps keeps) single range inside some
