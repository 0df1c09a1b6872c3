-- view: masks bit by bit, from the top bit down.
use Rattle.std.specs.Prelude.{◌≡◌, ℕ, ◌<◌, ◌^◌}
use Rattle.std.specs.Int.{bit_at}
use Rattle.sl_cube.specs.Bits.{Agrees}

-- Each number of so many bits that agrees with the inner mask and value agrees with the outer ones.
abbrev pub IncludesBelow : ℕ → ℕ → ℕ → ℕ → ℕ → Type 0
IncludesBelow width mask value inner_mask inner_value =
    (x : ℕ) → x < 2 ^ width → Agrees inner_mask inner_value x → Agrees mask value x

-- The second number is the highest bit of the first.
abbrev pub IsTopBit : ℕ → ℕ → Type 0
IsTopBit n bit = (k : ℕ) × (bit ≡ 2 ^ k) × (bit_at n k ≡ 1) × ((i : ℕ) → k < i → bit_at n i ≡ 0)
