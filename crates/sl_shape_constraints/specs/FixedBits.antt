-- step: bits of a value at places of a number.
use Rattle.std.specs.Prelude.{◌≡◌, ℕ, ◌<◌}
use Rattle.std.specs.Int.{bit_at}

-- The mask has the places of the first n bits and no others, and the number has those bits of the
-- value there.
pub record FixesBits (place : ℕ → ℕ) (value n mask fixed : ℕ) : Type 0 where
  pub masked : (r : ℕ) → r < n → bit_at mask (place r) ≡ 1
  pub only : (j : ℕ) → bit_at mask j ≡ 1 → (r : ℕ) × (r < n) × (j ≡ place r)
  pub as_value : (r : ℕ) → r < n → bit_at fixed (place r) ≡ bit_at value r
  pub within : (j : ℕ) → bit_at fixed j ≡ 1 → bit_at mask j ≡ 1
