-- Sizes as the definitions make them, and the arguments of a user operation.
use Rattle.std.proofs.Common.{◌≡◌, ℕ, ◌≤◌, Option, List, ◌++◌, drop, min, sym, ap, ◌∙◌, subst}
use Rattle.std.proofs.Math.Nat.{max-eq_left, min-eq_left}
use Rattle.std.specs.Coded.{le_prop}
use Rattle.sl_section_flat.specs.Sections.{bounded}
use Rattle.sl_section_flat.specs.Views.{terms_of}
use Rattle.sl_section_flat.specs.Chains.{chain}
use Rattle.sl_section_flat.specs.declared.term.Term.{Term}
use Rattle.sl_sizes.specs.declared.Equation.{Equation}
use Rattle.sl_word.specs.declared.word.Size.{Size}
use Rattle.sl_section_equations.specs.Equations.{arguments_equations, size_at}

sized : (n : ℕ) → 1 ≤ n → n ≤ 16 → Size
sized n p q = record { bytes = n; some = p; at_most_16 = q }

size_by : (a : Size) (n : ℕ) → a.bytes ≡ n → (p : 1 ≤ n) (q : n ≤ 16) → a ≡ sized n p q
unfolding sized
size_by a n e =
    subst (λ (k : ℕ). (p : 1 ≤ k) (q : k ≤ 16) → a ≡ sized k p q) e
    (λ p q. ap (λ (r : 1 ≤ a.bytes). sized a.bytes r a.at_most_16) (le_prop a.some p) ∙ ap (λ (r : a.bytes ≤ 16). sized a.bytes p r) (le_prop a.at_most_16 q))

-- a size within 1 to 16 isn't changed
within : (a : Size) → a.bytes ≡ bounded a.bytes
within a = sym (ap (λ n. min n 16) (max-eq_left a.some) ∙ min-eq_left a.at_most_16)

pub size_is : (a : Size) → a ≡ size_at a.bytes
unfolding sized size_at
size_is a = size_by a (bounded a.bytes) (within a) (size_at a.bytes).some (size_at a.bytes).at_most_16

module _ (address : Option ℕ → ℕ) (operand : ℕ → Option ℕ) where
  -- what is there behind i arguments, and what the rest gives, is all
  abbrev pub AreArguments : (start : List Equation) → List Term → (now : List Equation) → (i : ℕ) → Type 0
  AreArguments start ts now i =
      now ++ arguments_equations address operand (chain (terms_of (drop i ts))) ≡ start ++ arguments_equations address operand (chain (terms_of ts))
