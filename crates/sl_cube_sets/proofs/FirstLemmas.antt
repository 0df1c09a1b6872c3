-- The least point of some cubes, one cube after the other.
use Rattle.std.proofs.Common.{◌≡◌, ℕ, ◌+◌, ◌<◌, ◌≤◌, ◌⊎◌, List, length, get_or, MatchOption, Option, Some, None, arith, sym, ◌∙◌, ap, refl, inl, inr, subst}
use Rattle.std.proofs.lemmas.Bool.{cases_lt}
use Rattle.std.proofs.lemmas.List.{get_or_default}
use Rattle.sl_cube.specs.declared.Cube.{Cube}
use Rattle.sl_cube.specs.declared.Point.{Point}
use Rattle.sl_cube.specs.Points.{InRange, IsIn, IsInSome, NotAfter}
use Rattle.sl_cube.specs.Cubes.{IsLeast, IsFound}
use Rattle.sl_cube.proofs.OutsideLemmas.{order_trans}
use Rattle.sl_cube_sets.specs.Sets.{IsLeastWhere, IsLeastOf}
use Rattle.sl_cube_sets.specs.Unions.{AreWithin}
use Rattle.sl_cube_sets.specs.Firsts.{IsEarlier, IsInNone}
use Rattle.sl_cube_sets.proofs.LeftLemmas.{some_or_none}

-- ---- two together

after_found : (S : Point → Type 0) (found : Option Point) (p : Point) → IsLeastOf S found → ((f : Point) → found ≡ Some f → NotAfter p f) → (q : Point) → InRange q → S q
    → NotAfter p q
after_found S None p none h q range s = absurd (none q range s)
after_found S (Some f) p l h q range s = order_trans p f q (h f refl) (l.least q range s)

pub least_either : (Q S : Point → Type 0) (best found next : Option Point) → IsEarlier best found next → IsLeastOf Q best → IsLeastOf S found → IsLeastOf (λ q. Q q ⊎ S q) next
least_either Q S best found None e b f = λ q range h. elim h [
  | inl a ↦ (subst (λ (o : Option Point). IsLeastOf Q o) e.0 b) q range a
  | inr s ↦ (subst (λ (o : Option Point). IsLeastOf S o) e.1 f) q range s
]
least_either Q S best found (Some p) e b f = record {
  in_range = elim e.0 [
    | inl is ↦ (subst (λ (o : Option Point). IsLeastOf Q o) is b).in_range
    | inr is ↦ (subst (λ (o : Option Point). IsLeastOf S o) is f).in_range
  ];
  here = elim e.0 [
    | inl is ↦ inl ((subst (λ (o : Option Point). IsLeastOf Q o) is b).here)
    | inr is ↦ inr ((subst (λ (o : Option Point). IsLeastOf S o) is f).here)
  ];
  least = λ q range h. elim h [
    | inl a ↦ after_found Q best p b e.1 q range a
    | inr s ↦ after_found S found p f e.2 q range s
  ];
}

pub least_same : (Q S : Point → Type 0) (to : (q : Point) → Q q → S q) (from : (q : Point) → S q → Q q) (found : Option Point) → IsLeastOf Q found → IsLeastOf S found
least_same Q S to from None h = λ q range s. h q range (from q s)
least_same Q S to from (Some p) h = record { in_range = h.in_range; here = to p h.here; least = λ q range s. h.least q range (from q s) }

-- ---- the cubes of a list

module _ (R : Cube → Point → Type 0) (cubes : List Cube) where
  abbrev pub InFirst : ℕ → Point → Type 0
  InFirst n q = (k : ℕ) × (c : Cube) × (k < n) × (k < length cubes) × (get_or cubes k c ≡ c) × R c q

  pub first_begun : IsLeastOf (InFirst 0) None
  first_begun = λ q range h. omega (arith, h.2)

  step_to : (n : ℕ) (cube : Cube) (q : Point) → n < length cubes → cube ≡ get_or cubes n cube → InFirst n q ⊎ R cube q → InFirst (n + 1) q
  step_to n cube q below is (inl h) = (h.0, h.1, omega (arith, h.2), h.3, h.4, h.5)
  step_to n cube q below is (inr r) = (n, cube, omega arith, below, sym is, r)

  step_from : (n : ℕ) (cube : Cube) (q : Point) → n < length cubes → cube ≡ get_or cubes n cube → InFirst (n + 1) q → InFirst n q ⊎ R cube q
  step_from n cube q below is h = elim (cases_lt h.0 n) [
    | inl before ↦ inl (h.0, h.1, before, h.3, h.4, h.5)
    | inr after ↦
        let same : h.0 ≡ n = omega (arith, h.2, after) in
        let e : h.1 ≡ cube = sym h.4 ∙ get_or_default cubes h.0 h.1 cube h.3 ∙ ap (λ (k : ℕ). get_or cubes k cube) same ∙ sym is in
        inr (subst (λ (c : Cube). R c q) e h.5)
  ]

  pub first_more : (n : ℕ) (cube : Cube) (best found next : Option Point) → n < length cubes → cube ≡ get_or cubes n cube → IsEarlier best found next → IsLeastOf (R cube) found
      → IsLeastOf (InFirst n) best → IsLeastOf (InFirst (n + 1)) next
  first_more n cube best found next below is e f b =
      least_same (λ q. InFirst n q ⊎ R cube q) (InFirst (n + 1)) (λ q h. step_to n cube q below is h) (λ q h. step_from n cube q below is h) next
      (least_either (InFirst n) (R cube) best found next e b f)

-- ---- all points of the cubes, or those outside others

abbrev pub HasPoint : Cube → Point → Type 0
HasPoint c q = IsIn q c

abbrev pub HasOutside : List Cube → Cube → Point → Type 0
HasOutside others c q = IsIn q c × (IsInSome others q → ⊥)

pub least_point : (c : Cube) (p : Point) → InRange p → IsLeast c p → IsLeastOf (HasPoint c) (Some p)
least_point c p range l = record { in_range = range; here = l.0; least = λ q q_range inside. l.1 q q_range inside }

pub least_found : (others : List Cube) (c : Cube) (found : Option Point) → IsFound c others found → IsLeastOf (HasOutside others c) found
least_found others c None h = λ q range r. r.1 (h q range r.0)
least_found others c (Some p) h = record { in_range = h.0.0; here = (h.0.1, h.0.2); least = λ q range r. h.1 q (range, r.0, r.1) }

pub all_points : (cubes : List Cube) (n : ℕ) (best : Option Point) → length cubes ≤ n → IsLeastOf (InFirst HasPoint cubes n) best → IsLeastOf (IsInSome cubes) best
all_points cubes n best all h = least_same (InFirst HasPoint cubes n) (IsInSome cubes)
    (λ q f. (f.0, f.1, f.3, f.4, f.5)) (λ q s. (s.0, s.1, omega (arith, all, s.2), s.2, s.3, s.4)) best h

pub all_outside : (cubes others : List Cube) (n : ℕ) (best : Option Point) → length cubes ≤ n → IsLeastOf (InFirst (HasOutside others) cubes n) best
    → MatchOption best (AreWithin cubes others) (IsLeastWhere (IsInNone cubes others))
all_outside cubes others n best all h = told best (least_same (InFirst (HasOutside others) cubes n) (IsInNone cubes others)
    (λ q f. ((f.0, f.1, f.3, f.4, f.5.0), f.5.1)) (λ q s. (s.0.0, s.0.1, omega (arith, all, s.0.2), s.0.2, s.0.3, (s.0.4, s.1))) best h)
  where
    told : (o : Option Point) → IsLeastOf (IsInNone cubes others) o → MatchOption o (AreWithin cubes others) (IsLeastWhere (IsInNone cubes others))
    told None none = λ p range inside. elim (some_or_none others p) [ inl there ↦ there | inr out ↦ absurd (none p range (inside, out)) ]
    told (Some p) l = l
