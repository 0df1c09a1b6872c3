-- view: tokens, byte by byte.
use Rattle.std.specs.Prelude.{ℕ, ◌+◌, ◌-◌, ◌/◌, nat_le, List, length, take, drop, if◌then◌else◌}
use Rattle.sl_spec.specs.FieldValues.{token_integer}
use Rattle.sl_spec.specs.Tables.{Token}
use Rattle.sl_word.specs.declared.word.Endian.{Endian}
use Rattle.sl_word.specs.declared.word.Endian.TheVariants.{Little, Big}

-- the integer of a token that begins at a place; 0 where it isn't whole there
abbrev pub token_number : Token → List ℕ → ℕ → ℕ
token_number token bytes at = if nat_le (at + token.bits / 8) (length bytes)
    then token_integer token.endian (take (token.bits / 8) (drop at bytes)) else 0

-- which of so many bytes is read at a step, where the most significant one is read first
abbrev pub turn : Endian → ℕ → ℕ → ℕ
turn Big size i = i
turn Little size i = size - 1 - i
