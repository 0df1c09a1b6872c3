-- meaning: how numbers lie in bytes, in either byte order.
use Rattle.std.specs.Prelude.{◌≡◌, ◌≢◌, ℕ, zero, suc, ◌+◌, ◌-◌, ◌*◌, ◌/◌, ◌%◌, ◌^◌, ◌<◌}
use Rattle.sl_word.specs.declared.word.Endian.{Endian}
use Rattle.sl_word.specs.declared.word.Endian.TheVariants.{Little, Big}

-- The byte that lies i places after the first, where a number of `size` bytes lies in memory.
abbrev pub byte_of : Endian → ℕ → ℕ → ℕ → ℕ
byte_of Little size number i = number / 256 ^ i % 256
byte_of Big size number i = number / 256 ^ (size - 1 - i) % 256

-- The number that the bytes f 0, f 1, .. make, so many of them, the least significant first.
abbrev pub little_endian : (ℕ → ℕ) → ℕ → ℕ
little_endian f zero = 0
little_endian f (suc k) = little_endian f k + f k * 256 ^ k

-- The same, the most significant first.
abbrev pub big_endian : (ℕ → ℕ) → ℕ → ℕ
big_endian f zero = 0
big_endian f (suc k) = big_endian f k * 256 + f k

-- The number that so many bytes make in memory.
abbrev pub number_of : Endian → (ℕ → ℕ) → ℕ → ℕ
number_of Little f size = little_endian f size
number_of Big f size = big_endian f size

-- Bytes by their offsets before and after some bytes are put from a base on, round the end of a space of so many offsets.
pub record Puts (offsets base count : ℕ) (byte : ℕ → ℕ) (old new : ℕ → ℕ) : Type 0 where
  pub put : (i : ℕ) → i < count → new ((base + i) % offsets) ≡ byte i
  pub kept : (offset : ℕ) → ((i : ℕ) → i < count → offset ≢ (base + i) % offsets) → new offset ≡ old offset
