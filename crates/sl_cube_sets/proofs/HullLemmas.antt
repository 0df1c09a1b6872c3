-- The hull of a union of cubes, one cube after the other.
use Rattle.std.proofs.Common.{◌≡◌, ℕ, ◌+◌, ◌<◌, ◌≤◌, ◌⊎◌, List, length, get_or, arith, sym, ◌∙◌, ap, refl, inl, inr, subst}
use Rattle.std.specs.Int.{bit_at}
use Rattle.std.specs.List.{HoldsAt}
use Rattle.std.proofs.lemmas.Bool.{cases_lt}
use Rattle.std.proofs.lemmas.List.{get_or_default}
use Rattle.std.proofs.lemmas.List.Elements.{at_read}
use Rattle.sl_cube.specs.declared.Cube.{Cube}
use Rattle.sl_cube.specs.declared.Point.{Point}
use Rattle.sl_cube.specs.Points.{InRange, IsIn, IsInSome}
use Rattle.sl_cube.specs.Cubes.{IsHull, HasShared}
use Rattle.sl_cube_sets.specs.Unions.{IsHullOf}

abbrev pub SharedWhere : (Point → ℕ) → (Point → Type 0) → Point → Type 0
SharedWhere part P q = (i bit : ℕ) → ((p : Point) → InRange p → P p → bit_at (part p) i ≡ bit) → bit_at (part q) i ≡ bit

-- The hull of the points for which this holds.
pub record HullWhere (P : Point → Type 0) (h : Cube) : Type 0 where
  pub bytes : (q : Point) → InRange q → IsIn q h → SharedWhere (λ p. p.bytes) P q
  pub context : (q : Point) → InRange q → IsIn q h → SharedWhere (λ p. p.context) P q
  pub back : (q : Point) → InRange q → SharedWhere (λ p. p.bytes) P q → SharedWhere (λ p. p.context) P q → IsIn q h

hull_has : (P : Point → Type 0) (h : Cube) → HullWhere P h → (p : Point) → InRange p → P p → IsIn p h
hull_has P h w p range inside = w.back p range (λ i bit all. all p range inside) (λ i bit all. all p range inside)

shared_on : (part : Point → ℕ) (P : Point → Type 0) (h c : Cube) (q : Point) → ((p : Point) → InRange p → IsIn p h → SharedWhere part P p)
    → HasShared part h c q → SharedWhere part (λ p. P p ⊎ IsIn p c) q
shared_on part P h c q forth shared = λ i bit all. shared i bit (λ p range side. elim side [
  | inl in_h ↦ forth p range in_h i bit (λ x x_range in_P. all x x_range (inl in_P))
  | inr in_c ↦ all p range (inr in_c)
])

shared_back : (part : Point → ℕ) (P : Point → Type 0) (h c : Cube) (q : Point) → ((p : Point) → InRange p → P p → IsIn p h)
    → SharedWhere part (λ p. P p ⊎ IsIn p c) q → HasShared part h c q
shared_back part P h c q has shared = λ i bit all. shared i bit (λ p range side. elim side [
  | inl in_P ↦ all p range (inl (has p range in_P))
  | inr in_c ↦ all p range (inr in_c)
])

pub hull_more : (P : Point → Type 0) (h c next : Cube) → HullWhere P h → IsHull h c next → HullWhere (λ p. P p ⊎ IsIn p c) next
hull_more P h c next w is = record {
  bytes = λ q range inside. shared_on (λ p. p.bytes) P h c q w.bytes ((is q range).0 inside).0;
  context = λ q range inside. shared_on (λ p. p.context) P h c q w.context ((is q range).0 inside).1;
  back = λ q range b x. (is q range).1 (
    shared_back (λ p. p.bytes) P h c q (hull_has P h w) b,
    shared_back (λ p. p.context) P h c q (hull_has P h w) x,
  );
}

module _ (P Q : Point → Type 0) (to : (p : Point) → P p → Q p) (from : (p : Point) → Q p → P p) (h : Cube) where
  pub hull_same : HullWhere P h → HullWhere Q h
  hull_same w = record {
    bytes = λ q range inside i bit all. w.bytes q range inside i bit (λ p r x. all p r (to p x));
    context = λ q range inside i bit all. w.context q range inside i bit (λ p r x. all p r (to p x));
    back = λ q range b x. w.back q range (λ i bit all. b i bit (λ p r y. all p r (from p y))) (λ i bit all. x i bit (λ p r y. all p r (from p y)));
  }

-- One of the first n cubes has the point, or the very first does.
abbrev pub IsInFirst : List Cube → ℕ → Point → Type 0
IsInFirst cubes n p = (k : ℕ) × ((k ≡ 0) ⊎ (k < n)) × (k < length cubes) × HoldsAt (λ c. IsIn p c) cubes k

pub hull_begun : (first h : Cube) (cubes : List Cube) → 0 < length cubes → first ≡ get_or cubes 0 first → IsHull first first h → HullWhere (IsInFirst cubes 0) h
hull_begun first h cubes some is joined = hull_same (λ p. IsIn p first ⊎ IsIn p first) (IsInFirst cubes 0)
    (λ p side. (0, inl refl, some, at_read cubes (λ c. IsIn p c) 0 first some is (elim side [ inl x ↦ x | inr x ↦ x ])))
    (λ p x. elim x.1 [
      | inl zero_place ↦ inl (subst (λ (c : Cube). IsIn p c) (ap (λ (k : ℕ). get_or cubes k first) zero_place ∙ sym is) (x.3 first))
      | inr below ↦ absurd (omega (arith, below))
    ]) h
    (record {
      bytes = λ q range inside. ((joined q range).0 inside).0;
      context = λ q range inside. ((joined q range).0 inside).1;
      back = λ q range b x. (joined q range).1 (b, x);
    })

step_to : (cube : Cube) (cubes : List Cube) (n : ℕ) (p : Point) → n < length cubes → cube ≡ get_or cubes n cube
    → IsInFirst cubes n p ⊎ IsIn p cube → IsInFirst cubes (n + 1) p
step_to cube cubes n p below is (inl x) = (x.0, elim x.1 [ inl e ↦ inl e | inr lt ↦ inr (omega (arith, lt)) ], x.2, x.3)
step_to cube cubes n p below is (inr x) = (n, inr (omega arith), below, at_read cubes (λ c. IsIn p c) n cube below is x)

step_from : (cube : Cube) (cubes : List Cube) (n : ℕ) (p : Point) → n < length cubes → cube ≡ get_or cubes n cube
    → IsInFirst cubes (n + 1) p → IsInFirst cubes n p ⊎ IsIn p cube
step_from cube cubes n p below is x = elim x.1 [
  | inl e ↦ inl (x.0, inl e, x.2, x.3)
  | inr lt ↦ elim (cases_lt x.0 n) [
    | inl before ↦ inl (x.0, inr before, x.2, x.3)
    | inr after ↦
        let same : x.0 ≡ n = omega arith in
        inr (subst (λ (c : Cube). IsIn p c) (ap (λ (k : ℕ). get_or cubes k cube) same ∙ sym is) (x.3 cube))
  ]
]

pub hull_step : (cube h next : Cube) (cubes : List Cube) (n : ℕ) → n < length cubes → cube ≡ get_or cubes n cube → IsHull h cube next
    → HullWhere (IsInFirst cubes n) h → HullWhere (IsInFirst cubes (n + 1)) next
hull_step cube h next cubes n below is joined w =
    hull_same (λ p. IsInFirst cubes n p ⊎ IsIn p cube) (IsInFirst cubes (n + 1))
    (λ p x. step_to cube cubes n p below is x) (λ p x. step_from cube cubes n p below is x) next
    (hull_more (IsInFirst cubes n) h cube next w joined)

pub hull_all : (first h : Cube) (cubes : List Cube) (n : ℕ) → length cubes ≤ n → HullWhere (IsInFirst cubes n) h → IsHullOf cubes h
hull_all first h cubes n all w =
    let v = hull_same (IsInFirst cubes n) (IsInSome cubes)
    (λ p x. (x.0, get_or cubes x.0 first, x.2, get_or_default cubes x.0 (get_or cubes x.0 first) first x.2, x.3 first))
    (λ p x.
    let lt : x.0 < n = omega (arith, x.2) in
    (x.0, inr lt, x.2, λ d. subst (λ (c : Cube). IsIn p c) (sym (get_or_default cubes x.0 d x.1 x.2 ∙ x.3)) x.4)) h w in
    λ q range. (λ inside. (v.bytes q range inside, v.context q range inside), λ shared. v.back q range shared.0 shared.1)
