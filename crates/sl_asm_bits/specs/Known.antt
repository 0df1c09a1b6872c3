-- view: what is known of a number of 64 bits.
use Rattle.std.specs.Prelude.{◌≡◌, ◌%◌, ◌^◌, ℕ, ℤ, Option, None, Some, FitsSigned}
use Rattle.std.specs.Int.{w64, cast_unsigned}
use Rattle.sl_asm_bits.specs.declared.Known.{Known}
use Rattle.sl_cube.specs.Bits.{Agrees}

-- The number has each bit that is known.
abbrev pub Has : Known → ℕ → Type 0
Has k n = Agrees k.mask k.value n

-- A number of 64 bits in two's complement that has each bit that is known.
pub record HasBits (k : Known) (z : ℤ) : Type 0 where
  pub fits : FitsSigned w64 z
  pub bits : Has k (cast_unsigned w64 z)

-- The number is one of those that are left; there may be none.
abbrev pub IsLeft : Option Known → ℤ → Type 0
IsLeft None z = ⊥
IsLeft (Some k) z = HasBits k z

-- The lowest bits of both, as many as the count, are the same.
abbrev pub IsSameBelow : ℕ → ℤ → ℤ → Type 0
IsSameBelow count y z = cast_unsigned w64 y % 2 ^ count ≡ cast_unsigned w64 z % 2 ^ count
