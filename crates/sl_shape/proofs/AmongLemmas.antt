-- What a list of numbers has, by recursion over it.
use Rattle.std.proofs.Common.{◌≡◌, ℕ, zero, suc, ◌+◌, ◌<◌, ◌≤◌, ◌⊎◌, inl, inr, length, Bool, true, false, cond, List, [], ◌∷◌, ◌++◌, refl, sym, ap, ◌∙◌, subst, arith}
use Rattle.std.specs.List.{AllByRecursion, filter, flat_map, range_with_len}
use Rattle.std.proofs.lemmas.Bool.{cases_eq, false≢true}

-- The list has the number.
abbrev pub IsAmong : ℕ → List ℕ → Type 0
IsAmong v [] = ⊥
IsAmong v (x ∷ xs) = (v ≡ x) ⊎ IsAmong v xs

pub among_all : (P : ℕ → Type 0) (xs : List ℕ) (v : ℕ) → AllByRecursion P xs → IsAmong v xs → P v
among_all P [] v all a = absurd a
among_all P (x ∷ xs) v all (inl e) = subst P (sym e) all.0
among_all P (x ∷ xs) v all (inr a) = among_all P xs v all.1 a

pub all_among : (P : ℕ → Type 0) (xs : List ℕ) → ((v : ℕ) → IsAmong v xs → P v) → AllByRecursion P xs
all_among P [] each = tt
all_among P (x ∷ xs) each = (each x (inl refl), all_among P xs (λ v a. each v (inr a)))

pub among_left : (v : ℕ) (xs ys : List ℕ) → IsAmong v xs → IsAmong v (xs ++ ys)
among_left v [] ys a = absurd a
among_left v (x ∷ xs) ys (inl e) = inl e
among_left v (x ∷ xs) ys (inr a) = inr (among_left v xs ys a)

pub among_right : (v : ℕ) (xs ys : List ℕ) → IsAmong v ys → IsAmong v (xs ++ ys)
among_right v [] ys a = a
among_right v (x ∷ xs) ys a = inr (among_right v xs ys a)

pub among_either : (v : ℕ) (xs ys : List ℕ) → IsAmong v (xs ++ ys) → IsAmong v xs ⊎ IsAmong v ys
among_either v [] ys a = inr a
among_either v (x ∷ xs) ys (inl e) = inl (inl e)
among_either v (x ∷ xs) ys (inr a) = elim (among_either v xs ys a) [ inl l ↦ inl (inr l) | inr r ↦ inr r ]

-- ---- filters

pub here_if : (b : Bool) (v x : ℕ) (xs : List ℕ) → v ≡ x → b ≡ true → IsAmong v (cond b (x ∷ xs) xs)
here_if true v x xs e on = inl e
here_if false v x xs e on = absurd (false≢true on)

pub behind_if : (b : Bool) (v x : ℕ) (xs : List ℕ) → IsAmong v xs → IsAmong v (cond b (x ∷ xs) xs)
behind_if true v x xs a = inr a
behind_if false v x xs a = a

pub in_filter : (test : ℕ → Bool) (xs : List ℕ) (v : ℕ) → IsAmong v xs → test v ≡ true → IsAmong v (filter test xs)
in_filter test [] v a on = absurd a
in_filter test (x ∷ xs) v (inl e) on = here_if (test x) v x (filter test xs) e (ap test (sym e) ∙ on)
in_filter test (x ∷ xs) v (inr a) on = behind_if (test x) v x (filter test xs) (in_filter test xs v a on)

from_if : (b : Bool) (v x : ℕ) (xs : List ℕ) → IsAmong v (cond b (x ∷ xs) xs) → (v ≡ x) ⊎ IsAmong v xs
from_if true v x xs a = a
from_if false v x xs a = inr a

pub from_filter : (test : ℕ → Bool) (xs : List ℕ) (v : ℕ) → IsAmong v (filter test xs) → IsAmong v xs
from_filter test [] v a = absurd a
from_filter test (x ∷ xs) v a = elim (from_if (test x) v x (filter test xs) a) [
  | inl e ↦ inl e
  | inr rest ↦ inr (from_filter test xs v rest)
]

-- The first number that passes begins what is filtered.
pub record IsFirstIn (test : ℕ → Bool) (xs : List ℕ) (v : ℕ) : Type 0 where
  pub rest : List ℕ
  pub is : filter test xs ≡ v ∷ rest
  pub passes : test v ≡ true

first_if : (test : ℕ → Bool) (x : ℕ) (xs : List ℕ) (b : Bool) → test x ≡ b → 0 < length (cond b (x ∷ filter test xs) (filter test xs))
    → (0 < length (filter test xs) → (v : ℕ) × IsFirstIn test xs v) → (v : ℕ) × IsFirstIn test (x ∷ xs) v
first_if test x xs true e some rest = (x, record { rest = filter test xs; is = ap (λ b. cond b (x ∷ filter test xs) (filter test xs)) e; passes = e })
first_if test x xs false e some rest =
    let r = rest some in
    (r.0, record { rest = r.1.rest; is = ap (λ b. cond b (x ∷ filter test xs) (filter test xs)) e ∙ r.1.is; passes = r.1.passes })

pub first_in : (test : ℕ → Bool) (xs : List ℕ) → 0 < length (filter test xs) → (v : ℕ) × IsFirstIn test xs v
first_in test [] some = absurd (omega (arith, some))
first_in test (x ∷ xs) some = first_if test x xs (test x) refl some (first_in test xs)

-- ---- lists one behind the other

pub in_flat : (F : ℕ → List ℕ) (n k m v : ℕ) → k ≤ m → m < k + n → IsAmong v (F m) → IsAmong v (flat_map F (range_with_len k n))
in_flat F zero k m v from to a = absurd (omega (arith, from, to))
in_flat F (suc n) k m v from to a = elim (cases_eq m k) [
  | inl e ↦ among_left v (F k) (flat_map F (range_with_len (k + 1) n)) (subst (λ (j : ℕ). IsAmong v (F j)) e a)
  | inr other ↦ among_right v (F k) (flat_map F (range_with_len (k + 1) n)) (in_flat F n (k + 1) m v (omega (arith, from, other)) (omega (arith, to)) a)
]

pub from_flat : (F : ℕ → List ℕ) (n k v : ℕ) → IsAmong v (flat_map F (range_with_len k n)) → (m : ℕ) × IsAmong v (F m)
from_flat F zero k v a = absurd a
from_flat F (suc n) k v a = elim (among_either v (F k) (flat_map F (range_with_len (k + 1) n)) a) [
  | inl here ↦ (k, here)
  | inr rest ↦ from_flat F n (k + 1) v rest
]

pub in_range : (n k v : ℕ) → k ≤ v → v < k + n → IsAmong v (range_with_len k n)
in_range zero k v from to = absurd (omega (arith, from, to))
in_range (suc n) k v from to = elim (cases_eq v k) [
  | inl e ↦ inl e
  | inr other ↦ inr (in_range n (k + 1) v (omega (arith, from, other)) (omega (arith, to)))
]

pub from_range : (n k v : ℕ) → IsAmong v (range_with_len k n) → v < k + n
from_range zero k v a = absurd a
from_range (suc n) k v (inl e) = omega (arith, e)
from_range (suc n) k v (inr a) = let rest = from_range n (k + 1) v a in omega (arith, rest)

-- ---- two cuts of one list

-- The second cut is at the same place, or behind the first, or before it.
pub record AreCutAlike (xs ys : List ℕ) (a b : ℕ) : Type 0 where
  pub fronts : xs ≡ ys
  pub here : a ≡ b

abbrev pub IsBehind : List ℕ → List ℕ → ℕ → Type 0
IsBehind xs ys a = (more : List ℕ) × (ys ≡ xs ++ a ∷ more)

abbrev pub AreCuts : List ℕ → List ℕ → ℕ → ℕ → Type 0
AreCuts xs ys a b = AreCutAlike xs ys a b ⊎ (IsBehind xs ys a ⊎ IsBehind ys xs b)

heads : (x y : ℕ) (xs ys : List ℕ) → (x ∷ xs) ≡ (y ∷ ys) → x ≡ y
heads x y xs ys e = ap (λ (l : List ℕ). elim l [ [] ↦ x | z ∷ zs ↦ z ]) e

tails : (x y : ℕ) (xs ys : List ℕ) → (x ∷ xs) ≡ (y ∷ ys) → xs ≡ ys
tails x y xs ys e = ap (λ (l : List ℕ). elim l [ [] ↦ xs | z ∷ zs ↦ zs ]) e

more_cuts : (x y : ℕ) (xs ys : List ℕ) (a b : ℕ) → x ≡ y → AreCuts xs ys a b → AreCuts (x ∷ xs) (y ∷ ys) a b
more_cuts x y xs ys a b e (inl same) = inl (record { fronts = λ i. e i ∷ same.fronts i; here = same.here })
more_cuts x y xs ys a b e (inr (inl l)) = inr (inl (l.0, (λ i. sym e i ∷ l.1 i)))
more_cuts x y xs ys a b e (inr (inr r)) = inr (inr (r.0, (λ i. e i ∷ r.1 i)))

pub cuts : (xs ys : List ℕ) (a b : ℕ) (cs bs : List ℕ) → xs ++ a ∷ cs ≡ ys ++ b ∷ bs → AreCuts xs ys a b
cuts [] [] a b cs bs e = inl (record { fronts = refl; here = heads a b cs bs e })
cuts [] (y ∷ ys) a b cs bs e = inr (inl (ys, (λ i. sym (heads a y cs (ys ++ b ∷ bs) e) i ∷ ys)))
cuts (x ∷ xs) [] a b cs bs e = inr (inr (xs, (λ i. heads x b (xs ++ a ∷ cs) bs e i ∷ xs)))
cuts (x ∷ xs) (y ∷ ys) a b cs bs e =
    more_cuts x y xs ys a b (heads x y (xs ++ a ∷ cs) (ys ++ b ∷ bs) e) (cuts xs ys a b cs bs (tails x y (xs ++ a ∷ cs) (ys ++ b ∷ bs) e))
