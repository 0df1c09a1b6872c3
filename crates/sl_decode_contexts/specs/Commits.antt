-- meaning: the context at an address, by a list of commits in the order in which they were made
-- (SLEIGH manual, "Context", globalset).
use Rattle.std.specs.Prelude.{◌≡◌, ℕ, ◌<◌, ◌^◌, ◌==◌, ◌&&◌, nat_lt, nat_le, Bool, if◌then◌else◌}
use Rattle.std.specs.Prelude.{Option, Some, None, List, [], ◌∷◌}
use Rattle.std.specs.Int.{bit_at}
use Rattle.sl_decode_contexts.specs.declared.commits.Commit.{Commit}

abbrev pub or_else : Option Commit → Option Commit → Option Commit
or_else None other = other
or_else (Some c) other = Some c

-- the latest commit of which the test holds
abbrev pub latest : (Commit → Bool) → List Commit → Option Commit
latest p [] = None
latest p (c ∷ cs) = or_else (latest p cs) (if p c then Some c else None)

-- A flowing commit counts from its address on, another one at its address alone, and each for the
-- bits that it gives.
abbrev pub counts : ℕ → ℕ → Commit → Bool
counts address i c =
    (bit_at c.mask i == 1) && (if c.flows then nat_le c.address address else c.address == address)

-- Of the commits of which the test holds, those with the greatest address are taken, and the latest
-- of these gives the bit; where it holds of none, the starting value does.
pub data Greatest (p : Commit → Bool) (start : ℕ) (cs : List Commit) (i : ℕ) : ℕ → Type 0 where
  given : (c : Commit)
      → latest (λ d. p d && (d.address == c.address)) cs ≡ Some c
      → latest (λ d. p d && nat_lt c.address d.address) cs ≡ None
      → Greatest p start cs i (bit_at c.value i)
  not_given : latest p cs ≡ None → Greatest p start cs i (bit_at start i)

-- the context at an address, bit by bit
abbrev pub IsContextAt : ℕ → List Commit → ℕ → ℕ → Type 0
IsContextAt start cs address context =
    (i : ℕ) → i < 64 → Greatest (counts address i) start cs i (bit_at context i)

-- ---- laws

-- There is one at most.
abbrev pub ContextIsOne : Type 0
ContextIsOne = (start : ℕ) (cs : List Commit) (address a b : ℕ) → a < 2 ^ 64 → b < 2 ^ 64
    → IsContextAt start cs address a → IsContextAt start cs address b → a ≡ b

-- There is one.
abbrev pub SomeContext : Type 0
SomeContext = (start : ℕ) (cs : List Commit) (address : ℕ)
    → (context : ℕ) × (context < 2 ^ 64) × IsContextAt start cs address context
