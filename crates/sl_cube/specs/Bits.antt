-- meaning: masks and values bit by bit.
use Rattle.std.specs.Prelude.{◌≡◌, ℕ}
use Rattle.std.specs.Int.{bit_at}

-- The number has the value's bit at each place that the mask fixes.
abbrev pub Agrees : ℕ → ℕ → ℕ → Type 0
Agrees mask value number = (i : ℕ) → bit_at mask i ≡ 1 → bit_at number i ≡ bit_at value i
