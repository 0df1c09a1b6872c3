-- meaning: how the count of a runner grows.
use Rattle.std.specs.Prelude.{◌≡◌, ℕ, ◌+◌, ◌-◌, ◌^◌, min}

-- The count of a runner grew by so many, up to the largest of 64 bits.
abbrev pub Grew : (old new : ℕ) → (ran : ℕ) → Type 0
Grew old new ran = new ≡ min (old + ran) (2 ^ 64 - 1)
