-- What is surely so, of what is surely so, and least numbers.
use Rattle.std.proofs.Common.{◌≡◌, ℕ, zero, suc, ◌<◌, ◌⊎◌, sym, subst, inl, inr, arith}
use Rattle.std.proofs.lemmas.Bool.{cases_lt}
use Rattle.sl_base_surely.specs.Surely.{Surely}

pub surely : {P : Type 0} → P → Surely P
surely p = λ none. none p

pub surely_then : {A B : Type 0} → Surely A → (A → Surely B) → Surely B
surely_then a f = λ none. a (λ x. f x none)

pub surely_map : {A B : Type 0} → (A → B) → Surely A → Surely B
surely_map f a = λ none. a (λ x. none (f x))

-- it is so or it isn't
pub surely_either : (P : Type 0) → Surely (P ⊎ (P → ⊥))
surely_either P = λ none. none (inr (λ p. none (inl p)))

-- a function from what is surely so, where it gives what is surely so
pub surely_function : {A B : Type 0} → (A → Surely B) → Surely (A → B)
surely_function f = λ none. none (λ a. absurd (f a (λ b. none (λ x. b))))

-- ---- numbers

-- It holds for no number below the bound.
abbrev pub HoldsForNoneBelow : (ℕ → Type 0) → ℕ → Type 0
HoldsForNoneBelow P bound = (k : ℕ) → k < bound → P k → ⊥

-- The least number for which it holds.
pub record IsLeastNumber (P : ℕ → Type 0) (m : ℕ) : Type 0 where
  pub here : P m
  pub none_below : HoldsForNoneBelow P m

-- numbers below the next bound are below this one, or are it
pub below_next : (k bound : ℕ) → k < suc bound → (k < bound) ⊎ (bound ≡ k)
below_next k bound below = elim (cases_lt k bound) [
  | inl less ↦ inl less
  | inr most ↦ inr (omega (arith, below, most))
]

none_below_more : (P : ℕ → Type 0) (bound : ℕ) → HoldsForNoneBelow P bound → (P bound → ⊥) → HoldsForNoneBelow P (suc bound)
none_below_more P bound none not_here = λ k below p. elim (below_next k bound below) [
  | inl less ↦ none k less p
  | inr same ↦ not_here (subst P (sym same) p)
]

none_or_least : (P : ℕ → Type 0) (bound : ℕ) → Surely (HoldsForNoneBelow P bound ⊎ ((m : ℕ) × IsLeastNumber P m))
none_or_least P zero = surely (inl (λ k below p. omega (arith, below)))
none_or_least P (suc bound) = surely_then (none_or_least P bound) (λ before. elim before [
  | inr least ↦ surely (inr least)
  | inl none ↦ surely_map (λ here. elim here [
    | inl p ↦ inr (bound, record { here = p; none_below = none })
    | inr not_here ↦ inl (none_below_more P bound none not_here)
  ]) (surely_either (P bound))
])

-- where it holds for some number, there is a least one
pub surely_least : (P : ℕ → Type 0) (n : ℕ) → P n → Surely ((m : ℕ) × IsLeastNumber P m)
surely_least P n p = surely_then (none_or_least P (suc n)) (λ found. elim found [
  | inl none ↦ absurd (none n (omega arith) p)
  | inr least ↦ surely least
])

-- what is surely so for each number below a bound is surely so for all of them
pub surely_each : (P : ℕ → Type 0) (bound : ℕ) → ((k : ℕ) → k < bound → Surely (P k)) → Surely ((k : ℕ) → k < bound → P k)
surely_each P zero each = surely (λ k below. absurd (omega (arith, below)))
surely_each P (suc bound) each = surely_then (surely_each P bound (λ k below. each k (omega (arith, below)))) (λ before.
    surely_map (λ here. λ k below. elim (below_next k bound below) [
      | inl less ↦ before k less
      | inr same ↦ subst P same here
    ]) (each bound (omega arith)))
