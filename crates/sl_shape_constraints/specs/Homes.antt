-- step: where the bits of a field stand in a point.
use Rattle.std.specs.Prelude.{◌≡◌, ℕ, ◌+◌, ◌-◌, ◌*◌, ◌/◌, ◌%◌, ◌<◌, take, Option, Some, None}
use Rattle.std.specs.Int.{bit_at}
use Rattle.sl_shape_blocks.specs.Blocks.{InBlock}
use Rattle.sl_shape_blocks.specs.declared.Block.{Block}
use Rattle.sl_cube.specs.declared.Point.{Point}
use Rattle.sl_spec.specs.FieldValues.{bits_of, token_integer}
use Rattle.sl_spec.specs.Tables as spec
use Rattle.sl_word.specs.declared.word.Endian.TheVariants.{Little, Big}
use Rattle.sl_shape_constraints.specs.declared.bits.Bits.{Bits}
use Rattle.sl_shape_constraints.specs.declared.homes.Home.{Home}
use Rattle.sl_shape_constraints.specs.declared.homes.Home.TheVariants.{Context, Token}
use Rattle.sl_shape_constraints.specs.Values.{point_bytes}

-- the home of the fields of a token, or of the context
abbrev pub home_of : Option spec.Token → Home
home_of None = Context
home_of (Some t) = Token t.endian (t.bits / 8)

-- the number of the point that has the bits
abbrev pub part : Home → Point → ℕ
part Context p = p.context
part (Token order bytes) p = p.bytes

-- the place in it of a bit
abbrev pub place_of : Home → ℕ → ℕ
place_of Context bit = bit
place_of (Token Little bytes) bit = 8 * (15 - bit / 8) + bit % 8
place_of (Token Big bytes) bit = 8 * (16 - bytes) + bit

-- the number that the bits are of: the integer of a token at the first byte of the point, or the
-- context
abbrev pub integer : Home → Point → ℕ
integer Context p = p.context
integer (Token order bytes) p = token_integer order (take bytes (point_bytes p))

-- `count` bits of the point from `low` on are those of the value.
abbrev pub HasBits : Home → ℕ → ℕ → ℕ → Point → Type 0
HasBits home low count value p =
    (r : ℕ) → r < count → bit_at (part home p) (place_of home (low + r)) ≡ bit_at value r

-- the bits of the point as a number
abbrev pub code : Bits → Point → ℕ
code bits p = bits_of bits.low bits.high (integer bits.home p)

-- This number is in the block.
abbrev pub HasCodeIn : Bits → Block → Point → Type 0
HasCodeIn bits b p = InBlock b (code bits p)
