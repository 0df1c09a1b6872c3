-- meaning: a number of n bytes is below 256 ^ n. It is read as two's complement by taking 256 ^ n from its upper half.
-- `negsuc k` is -(k + 1).
use Rattle.std.specs.Prelude.{ℕ, ◌-◌, ◌*◌, ◌%◌, ◌^◌, Bool, ℤ, pos, negsuc, nat_lt, if◌then◌else◌}

-- What a number of `size` bytes means as a signed number.
abbrev pub signed_value : ℕ → ℕ → ℤ
signed_value size value = if nat_lt (2 * value) (256 ^ size) then pos value else negsuc (256 ^ size - 1 - value)

-- The number of `size` bytes that differs from a whole number by a multiple of 256 ^ size.
abbrev pub residue : ℕ → ℤ → ℕ
residue size (pos k) = k % 256 ^ size
residue size (negsuc k) = 256 ^ size - 1 - k % 256 ^ size

-- A whole number is one that `size` bytes can mean as a signed number.
abbrev pub fits_signed : ℕ → ℤ → Bool
fits_signed size (pos k) = nat_lt (2 * k) (256 ^ size)
fits_signed size (negsuc k) = nat_lt (2 * k) (256 ^ size)
