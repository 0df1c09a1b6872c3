-- meaning: the values of fields (SLEIGH manual, "Defining Tokens and Fields").
use Rattle.std.specs.Prelude.{ℕ, ℤ, suc, pos, negsuc, ◌+◌, ◌-◌, ◌*◌, ◌/◌, ◌%◌, ◌^◌, ◌≤◌}
use Rattle.std.specs.Prelude.{Bool, nat_lt, if◌then◌else◌}
use Rattle.std.specs.Prelude.{Option, None, Some, IfSome, option_and_then}
use Rattle.std.specs.Prelude.{List, [], ◌∷◌, take, drop, reverse, slice_get}
use Rattle.std.specs.Int.{w64, int_wrap}
use Rattle.sl_word.specs.declared.word.Endian.{Endian}
use Rattle.sl_word.specs.declared.word.Endian.TheVariants.{Little, Big}
use Rattle.sl_spec.specs.Tables.{Field, Token}

-- the number that bytes stand for, the first the least significant
abbrev pub number_from_least : List ℕ → ℕ
number_from_least [] = 0
number_from_least (b ∷ bs) = b + 256 * number_from_least bs

-- a token's integer, from its bytes
abbrev pub token_integer : Endian → List ℕ → ℕ
token_integer Little bytes = number_from_least bytes
token_integer Big bytes = number_from_least (reverse bytes)

-- the bits from low to high of a number, as an unsigned number
abbrev pub bits_of : ℕ → ℕ → ℕ → ℕ
bits_of low high n = n / 2 ^ low % 2 ^ (suc high - low)

-- a number of so many bits in two's complement: its upper half stands for the negative numbers
abbrev pub signed_of : ℕ → ℕ → ℤ
signed_of width n = if nat_lt (2 * n) (2 ^ width) then pos n else negsuc (2 ^ width - 1 - n)

-- a whole number brought into 64-bit two's complement
abbrev pub wrapped : ℤ → ℤ
wrapped z = int_wrap w64 z

-- bits of a field as the number that they mean
abbrev pub read_as : Bool → ℕ → ℕ → ℤ
read_as signed width n = if signed then signed_of width n else pos n

-- the value of a field, where its token's integer, or the context, is n
unfoldable pub value_of : Field → ℕ → ℤ
value_of f n = wrapped (read_as f.signed (suc f.high - f.low) (bits_of f.low f.high n))

-- the token of a field
abbrev pub token_of : List Token → Field → Option Token
token_of tokens f = option_and_then (slice_get tokens) f.token

-- the integer of the token at the front of these bytes; the context, where there is no token
abbrev pub number_in : Option Token → List ℕ → ℕ → ℕ
number_in None bytes context = context
number_in (Some t) bytes context = token_integer t.endian (take (t.bits / 8) bytes)

-- the value of a field whose token stands at a place in bytes
unfoldable pub field_value : List Token → Field → List ℕ → ℕ → ℕ → ℤ
field_value tokens f bytes at context =
    value_of f (number_in (token_of tokens f) (drop at bytes) context)

-- ---- conditions

-- A token, where there is one, lies within so many bytes from a place on.
abbrev pub LiesWithin : Option Token → ℕ → ℕ → Type 0
LiesWithin token at count = IfSome token (λ t. at + t.bits / 8 ≤ count)
