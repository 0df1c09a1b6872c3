-- step: the codes and the bits of a constraint's field.
use Rattle.std.specs.Prelude.{◌≡◌, ◌↔◌, ℕ, ◌<◌, ◌≤◌, ◌/◌, ◌^◌, Bool, ◌||◌, nat_eq}
use Rattle.sl_shape_blocks.specs.Blocks.{Satisfies}
use Rattle.sl_shape_blocks.specs.declared.Codes.{Codes}
use Rattle.sl_spec.specs.FieldValues.{token_of}
use Rattle.sl_shape_constraints.specs.Homes.{home_of}
use Rattle.sl_shape_constraints.specs.Values.{Constraint, HoldsOf, width}
use Rattle.sl_shape_constraints.specs.Windows.{byte_of}
use Rattle.sl_shape_constraints.specs.declared.bits.Bits.{Bits}
use Rattle.sl_shape_constraints.specs.declared.homes.Home.{Home}
use Rattle.sl_shape_constraints.specs.declared.homes.Home.TheVariants.{Context, Token}

-- In 64 bits each value counts as signed, since numbers have 64 bits with a sign.
abbrev pub reads_signed : Bool → ℕ → Bool
reads_signed signed size = signed || nat_eq size 64

-- The codes are those of the field for which the constraint holds.
abbrev pub AreCodesOf : Constraint → Codes → Type 0
AreCodesOf c codes = (n : ℕ) → n < 2 ^ width c.field → Satisfies codes n ↔ HoldsOf c n

-- All codes of `size` bits are among them.
abbrev pub AreAll : ℕ → Codes → Type 0
AreAll size codes = (n : ℕ) → n < 2 ^ size → Satisfies codes n

-- The bits are those of the constraint's field.
pub record AreBitsOf (c : Constraint) (bits : Bits) : Type 0 where
  pub home : bits.home ≡ home_of (token_of c.tokens c.field)
  pub low : bits.low ≡ c.field.low
  pub high : bits.high ≡ c.field.high

-- The byte of the token has one of the bits.
abbrev pub HasBitOf : Home → ℕ → ℕ → ℕ → Type 0
HasBitOf Context low high i = ⊥
HasBitOf (Token order bytes) low high i =
    (bit : ℕ) × (low ≤ bit) × (bit ≤ high) × (bit / 8 < bytes) × (i ≡ byte_of order bytes bit)

abbrev pub HasBitInByte : Bits → ℕ → Type 0
HasBitInByte bits i = HasBitOf bits.home bits.low bits.high i
