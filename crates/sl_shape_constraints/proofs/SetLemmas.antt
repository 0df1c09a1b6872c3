-- One more cube.
use Rattle.std.proofs.Common.{◌≡◌, ◌⊎◌, ◌++◌, List, [], ◌∷◌, arith, sym, inl, inr, subst}
use Rattle.std.proofs.lemmas.List.Elements.{Contains-push_cases, Contains-append_left}
use Rattle.std.proofs.lemmas.List.Quantifiers.{Any-push}
use Rattle.sl_cube.specs.declared.Cube.{Cube}
use Rattle.sl_cube.specs.declared.Point.{Point}
use Rattle.sl_cube.specs.Points.{InRange, IsIn, IsInSome}
use Rattle.sl_shape_constraints.specs.Sets.{Adds, IsCubeOf, IsNowhere, IsUnionOf}

pub old_in : (xs : List Cube) (c : Cube) (p : Point) → IsInSome xs p → IsInSome (xs ++ c ∷ []) p
old_in xs c p h =
    let there = Contains-append_left xs (c ∷ []) h.1 (h.0, h.2, h.3) in
    (there.0, h.1, there.1, there.2, h.4)

pub pushed_in : (xs : List Cube) (c : Cube) (p : Point) → IsInSome (xs ++ c ∷ []) p → IsInSome xs p ⊎ IsIn p c
pushed_in xs c p h = elim (Contains-push_cases xs c h.1 (h.0, h.2, h.3)) [
  | inl k ↦ inl (k.0, h.1, k.1, k.2, h.4)
  | inr e ↦ inr (subst (λ (x : Cube). IsIn p x) (sym e) h.4)
]

pub adds_cube : (xs ys : List Cube) (c : Cube) (P : Point → Type 0) → ys ≡ xs ++ c ∷ [] → IsCubeOf P c → Adds xs P ys
adds_cube xs ys c P e is = subst (λ (zs : List Cube). Adds xs P zs) (sym e) (λ p range. (
  λ h. elim (pushed_in xs c p h) [ inl old ↦ inl old | inr new ↦ inr ((is p range).0 new) ],
  λ s. elim s [ inl old ↦ old_in xs c p old | inr holds ↦ Any-push (λ x. IsIn p x) xs c ((is p range).1 holds) ],
))

pub adds_none : (xs : List Cube) (P : Point → Type 0) → IsNowhere P → Adds xs P xs
adds_none xs P none = λ p range. (inl, λ s. elim s [ inl old ↦ old | inr holds ↦ absurd (none p range holds) ])

pub adds_same : (xs ys : List Cube) (P Q : Point → Type 0) → ((p : Point) → InRange p → P p → Q p) → ((p : Point) → InRange p → Q p → P p) → Adds xs P ys → Adds xs Q ys
adds_same xs ys P Q to from adds = λ p range. (
  λ h. elim ((adds p range).0 h) [ inl old ↦ inl old | inr holds ↦ inr (to p range holds) ],
  λ s. elim s [ inl old ↦ (adds p range).1 (inl old) | inr holds ↦ (adds p range).1 (inr (from p range holds)) ],
)

pub adds_both : (xs ys zs : List Cube) (P Q : Point → Type 0) → Adds xs P ys → Adds ys Q zs → Adds xs (λ p. P p ⊎ Q p) zs
adds_both xs ys zs P Q first second = λ p range. (
  λ h. elim ((second p range).0 h) [
    | inl mid ↦ elim ((first p range).0 mid) [ inl old ↦ inl old | inr holds ↦ inr (inl holds) ]
    | inr holds ↦ inr (inr holds)
  ],
  λ s. elim s [
    | inl old ↦ (second p range).1 (inl ((first p range).1 (inl old)))
    | inr either ↦ elim either [
      | inl holds ↦ (second p range).1 (inl ((first p range).1 (inr holds)))
      | inr holds ↦ (second p range).1 (inr holds)
    ]
  ],
)

nothing_in : (p : Point) → IsInSome [] p → ⊥
nothing_in p h = omega (arith, h.2)

pub union_of : (ys : List Cube) (P : Point → Type 0) → Adds [] P ys → IsUnionOf P ys
union_of ys P adds = λ p range. (
  λ h. elim ((adds p range).0 h) [ inl none ↦ absurd (nothing_in p none) | inr holds ↦ holds ],
  λ holds. (adds p range).1 (inr holds),
)
