-- view: the numbers of blocks, by which what was made of a block is known again.
use Rattle.std.specs.Prelude.{◌≡◌, ℕ, ◌<◌, Bool, List, Option, Some}
use Rattle.std.specs.List.{AllByRecursion}
use Rattle.std.specs.Map.{lookup}
use Rattle.std.specs.Ordering.{is_eq, nat_cmp}
use Rattle.sl_ast.specs.Trees.{Head}
use Rattle.sl_ast.specs.Views.{head_of}
use Rattle.sl_spec.specs.declared.unfolded.Around.{Around}
use Rattle.sl_spec.specs.declared.unfolded.Unfolded.{Unfolded}

-- The heads of these blocks are told by their numbers.
abbrev pub AreTold : (ℕ → Head) → List Around → Type 0
AreTold head_at blocks = AllByRecursion (λ a. head_at a.number ≡ head_of a.head.now) blocks

-- The heads of all blocks round these constructors are told by their numbers.
abbrev pub AreToldOf : (ℕ → Head) → List Unfolded → Type 0
AreToldOf head_at us = AllByRecursion (λ u. AreTold head_at u.heads.items) us

-- Blocks with different heads have different numbers.
abbrev pub AreNumbered : List Unfolded → Type 0
AreNumbered us = (head_at : ℕ → Head) × AreToldOf head_at us

-- The block's number is below n, and tells its head.
abbrev pub IsBelow : (ℕ → Head) → ℕ → Around → Type 0
IsBelow head_at n a = (a.number < n) × (head_at a.number ≡ head_of a.head.now)

-- Blocks with different heads have different numbers below n, both these blocks and those round
-- the constructors.
abbrev pub AreNumberedBelow : ℕ → List Around → List Unfolded → Type 0
AreNumberedBelow n blocks us = (head_at : ℕ → Head)
    × AllByRecursion (IsBelow head_at n) blocks
    × AllByRecursion (λ u. AllByRecursion (IsBelow head_at n) u.heads.items) us

-- whether a number is this one
abbrev pub is_number : ℕ → ℕ → Bool
is_number n k = is_eq (nat_cmp n k)

-- what was made of the block of a number
abbrev pub made_of : {V : Type 0} → List (ℕ × V) → ℕ → Option V
made_of made n = lookup (is_number n) made

-- What was made of each block is right for its head.
abbrev pub AreMade : {V : Type 0} → (Head → V → Type 0) → (ℕ → Head) → List (ℕ × V) → Type 0
AreMade {V} IsRight head_at made = (n : ℕ) (v : V) → made_of made n ≡ Some v → IsRight (head_at n) v

-- It is right where numbers tell the heads of these blocks.
abbrev pub AreMadeFor : {V : Type 0} → (Head → V → Type 0) → List Around → List (ℕ × V) → Type 0
AreMadeFor IsRight blocks made =
    (head_at : ℕ → Head) × AreTold head_at blocks × AreMade IsRight head_at made

-- It stays right, however numbers tell the heads of these blocks.
abbrev pub KeepsMade : {V : Type 0} → (Head → V → Type 0) → List Around → List (ℕ × V)
    → List (ℕ × V) → Type 0
KeepsMade IsRight blocks old new = (head_at : ℕ → Head) → AreTold head_at blocks
    → AreMade IsRight head_at old → AreMade IsRight head_at new
