-- Slots that are made empty.
use Rattle.std.proofs.Common.{◌≢◌, ℕ, ◌+◌, ◌<◌, ◌≤◌, List, Option, Some, None, length, set, below_more, get_or-set_other, get_or-set_same, refl, arith}
use Rattle.std.specs.List.{All, HoldsAt}
use Rattle.std.specs.Prelude.{IfSome, IsNone}

module _ {X : Type 0} where
  pub emptied : (slots : List (Option X)) (n : ℕ) → n < length slots → ((k : ℕ) → k < n → HoldsAt IsNone slots k)
      → (k : ℕ) → k < n + 1 → HoldsAt IsNone (set slots n None) k
  emptied slots n inside before =
      below_more _ _
      (λ k h d. let other : k ≢ n = omega arith in rw get_or-set_other (before k h d))
      (λ d. rw get_or-set_same refl)

  none_any : (P : X → Type 0) (o : Option X) → IsNone o → IfSome o P
  none_any P None none = tt
  none_any P (Some x) none = cc

  -- Empty slots have whatever holds of each that is kept.
  pub all_empty : (P : X → Type 0) (slots : List (Option X)) (n : ℕ) → length slots ≤ n → ((k : ℕ) → k < n → HoldsAt IsNone slots k)
      → All (λ slot. IfSome slot P) slots
  all_empty P slots n whole empty = λ k d inside. none_any P _ (empty k (omega arith) d)
