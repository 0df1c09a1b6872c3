-- Numbers in order.
use Rattle.std.proofs.Common.{◌≡◌, ℕ, ◌+◌, ◌<◌, ◌≤◌, inl, inr, Bool, true, false, List, [], ◌∷◌, ◌++◌, length, Option, Some, sym, ap, subst, ◌∙◌, arith}
use Rattle.std.specs.Prelude.{All, Contains, slice_get}
use Rattle.std.proofs.lemmas.Bool.{cases_lt, false≢true}
use Rattle.std.proofs.lemmas.List.Elements.{All-head, All-nil, All-push, All-tail, All-weaker, Contains-append_left, Contains-push, Contains-push_cases}
use Rattle.std.proofs.lemmas.Option.{same_Some, slice_get_within}
use Rattle.sl_gap.specs.Findings.{AddsUnmarked, AreUnmarked}
use Rattle.sl_gap.specs.Reports.{IsRising}

pub rising_push : (ns : List ℕ) (n : ℕ) → IsRising ns → All (λ m. m < n) ns → IsRising (ns ++ n ∷ [])
rising_push [] n r below = (All-nil (λ m. n < m), tt)
rising_push (m ∷ ns) n r below = (
  All-push (λ k. m < k) ns n r.0 (All-head (λ k. k < n) m ns below),
  rising_push ns n r.1 (All-tail (λ k. k < n) m ns below),
)

pub small_more : (ns : List ℕ) (n : ℕ) → All (λ m. m < n) ns → All (λ m. m < n + 1) ns
small_more ns n small = All-weaker (λ m. m < n) (λ m. m < n + 1) (λ m lt. omega (arith, lt)) ns small

-- The numbers without a mark among the first n.
pub record UnmarkedFirst (marks : List Bool) (ids : List ℕ) (n : ℕ) : Type 0 where
  pub rising : IsRising ids
  pub small : All (λ m. m < n) ids
  pub right : (k : ℕ) → Contains ids k → slice_get marks k ≡ Some false
  pub all : (k : ℕ) → k < n → slice_get marks k ≡ Some false → Contains ids k

pub unmarked_none : (marks : List Bool) → UnmarkedFirst marks [] 0
unmarked_none marks = record {
  rising = tt;
  small = All-nil (λ m. m < 0);
  right = λ k c. absurd (omega (arith, c.1));
  all = λ k below. absurd (omega arith);
}

not_both : (o : Option Bool) → o ≡ Some true → o ≡ Some false → ⊥
not_both o e f = false≢true (same_Some false true (sym f ∙ e))

pub unmarked_more : (marks : List Bool) (ids new : List ℕ) (n : ℕ) (mark : Bool) → slice_get marks n ≡ Some mark → AddsUnmarked mark n ids new
    → UnmarkedFirst marks ids n → UnmarkedFirst marks new (n + 1)
unmarked_more marks ids new n true at same f = subst (λ (l : List ℕ). UnmarkedFirst marks l (n + 1)) (sym same) (record {
  rising = f.rising;
  small = small_more ids n f.small;
  right = f.right;
  all = λ k below e. elim (cases_lt k n) [
    | inl before ↦ f.all k before e
    | inr after ↦
        let here : k ≡ n = omega (arith, below, after) in
        absurd (not_both (slice_get marks k) (ap (slice_get marks) here ∙ at) e)
  ];
})
unmarked_more marks ids new n false at adds f = subst (λ (l : List ℕ). UnmarkedFirst marks l (n + 1)) (sym adds) (record {
  rising = rising_push ids n f.rising f.small;
  small = All-push (λ m. m < n + 1) ids n (small_more ids n f.small) (omega arith);
  right = λ k c. elim (Contains-push_cases ids n k c) [
    | inl old ↦ f.right k old
    | inr here ↦ ap (slice_get marks) (sym here) ∙ at
  ];
  all = λ k below e. elim (cases_lt k n) [
    | inl before ↦ Contains-append_left ids (n ∷ []) k (f.all k before e)
    | inr after ↦
        let here : n ≡ k = omega (arith, below, after) in
        subst (λ (x : ℕ). Contains (ids ++ n ∷ []) x) here (Contains-push ids n)
  ];
})

pub unmarked_all : (marks : List Bool) (ids : List ℕ) (n : ℕ) → length marks ≤ n → UnmarkedFirst marks ids n → AreUnmarked marks ids
unmarked_all marks ids n all f = record {
  rising = f.rising;
  each = λ k. (f.right k, λ e. let lt = slice_get_within marks k false e in f.all k (omega (arith, lt, all)) e);
}

-- ---- the index of a number

pub index_none : (ns : List ℕ) (x : ℕ) → (i : ℕ) → i < 0 → slice_get ns i ≡ Some x → ⊥
index_none ns x i below e = omega (arith, below)

pub index_more : (ns : List ℕ) (x n y : ℕ) → slice_get ns n ≡ Some y → (y ≡ x → ⊥) → ((i : ℕ) → i < n → slice_get ns i ≡ Some x → ⊥)
    → (i : ℕ) → i < n + 1 → slice_get ns i ≡ Some x → ⊥
index_more ns x n y at differ f i below e = elim (cases_lt i n) [
  | inl before ↦ f i before e
  | inr after ↦
      let here : n ≡ i = omega (arith, below, after) in
      differ (same_Some y x (sym at ∙ ap (slice_get ns) here ∙ e))
]

pub index_all : (ns : List ℕ) (x n : ℕ) → length ns ≤ n → ((i : ℕ) → i < n → slice_get ns i ≡ Some x → ⊥) → (i : ℕ) → slice_get ns i ≡ Some x → ⊥
index_all ns x n past f i e = let lt = slice_get_within ns i x e in f i (omega (arith, lt, past)) e
