-- meaning: what operations of p-code make of numbers of so many bytes.
use Rattle.std.specs.Prelude.{◌≡◌, ℕ, ◌+◌, ◌-◌, ◌*◌, ◌/◌, ◌%◌, ◌^◌, ◌≤◌, ◌==◌, not, pos, ◌-ℤ◌, ◌+ℤ◌, nat_lt, nat_le, bit_and, bit_or, bit_xor, count_ones, int_lt, int_le, int_div, int_rem}
use Rattle.std.specs.Int.{from_bool, int_shr}
use Rattle.std.specs.Int.Count.{count_leading_zeros}
use Rattle.sl_word.specs.Numbers.{signed_value, residue, fits_signed}
use Rattle.sl_word.specs.declared.operation.Op1.{Op1}
use Rattle.sl_word.specs.declared.operation.Op1.TheVariants.{Copy, IntNegate, Int2Comp, BoolNegate, IntZext, IntSext, PopCount, LzCount}
use Rattle.sl_word.specs.declared.operation.Op2.{Op2}
use Rattle.sl_word.specs.declared.operation.Op2.TheVariants.{IntAdd, IntSub, IntMult, IntDiv, IntRem, IntSdiv, IntSrem, IntLeft, IntRight, IntSright, IntAnd, IntOr, IntXor, IntEqual, IntNotEqual, IntLess, IntLessEqual, IntSless, IntSlessEqual, IntCarry, IntScarry, IntSborrow, BoolAnd, BoolOr, BoolXor, Subpiece}

-- What an operation makes of the number a of `size` bytes, for a result of `out` bytes.
abbrev pub value1 : Op1 → ℕ → ℕ → ℕ → ℕ
value1 Copy size out a = a
value1 IntNegate size out a = 256 ^ size - 1 - a
value1 Int2Comp size out a = (256 ^ size - a) % 256 ^ size
value1 BoolNegate size out a = bit_xor a 1
value1 IntZext size out a = a
value1 IntSext size out a = residue out (signed_value size a)
value1 PopCount size out a = count_ones a
value1 LzCount size out a = count_leading_zeros (8 * size) a

-- What an operation makes of the number a of `size` bytes and the number b, for a result of `out` bytes.
-- A test gives 1 where it holds, and else 0.
abbrev pub value2 : Op2 → ℕ → ℕ → ℕ → ℕ → ℕ
value2 IntAdd size out a b = (a + b) % 256 ^ size
value2 IntSub size out a b = residue size (pos a -ℤ pos b)
value2 IntMult size out a b = (a * b) % 256 ^ size
value2 IntDiv size out a b = a / b
value2 IntRem size out a b = a % b
value2 IntSdiv size out a b = residue size (int_div (signed_value size a) (signed_value size b))
value2 IntSrem size out a b = residue size (int_rem (signed_value size a) (signed_value size b))
value2 IntLeft size out a b = (a * 2 ^ b) % 256 ^ size
value2 IntRight size out a b = a / 2 ^ b
value2 IntSright size out a b = residue size (int_shr (signed_value size a) b)
value2 IntAnd size out a b = bit_and a b
value2 IntOr size out a b = bit_or a b
value2 IntXor size out a b = bit_xor a b
value2 IntEqual size out a b = from_bool (a == b)
value2 IntNotEqual size out a b = from_bool (not (a == b))
value2 IntLess size out a b = from_bool (nat_lt a b)
value2 IntLessEqual size out a b = from_bool (nat_le a b)
value2 IntSless size out a b = from_bool (int_lt (signed_value size a) (signed_value size b))
value2 IntSlessEqual size out a b = from_bool (int_le (signed_value size a) (signed_value size b))
value2 IntCarry size out a b = from_bool (nat_le (256 ^ size) (a + b))
value2 IntScarry size out a b = from_bool (not (fits_signed size (signed_value size a +ℤ signed_value size b)))
value2 IntSborrow size out a b = from_bool (not (fits_signed size (signed_value size a -ℤ signed_value size b)))
value2 BoolAnd size out a b = bit_and a b
value2 BoolOr size out a b = bit_or a b
value2 BoolXor size out a b = bit_xor a b
value2 Subpiece size out a b = a / 256 ^ b % 256 ^ out

-- The sizes in bytes of a and of the result that an operation takes.
abbrev pub TakesSizes1 : Op1 → ℕ → ℕ → Type 0
TakesSizes1 Copy size out = out ≡ size
TakesSizes1 IntNegate size out = out ≡ size
TakesSizes1 Int2Comp size out = out ≡ size
TakesSizes1 BoolNegate size out = (size ≡ 1) × (out ≡ 1)
TakesSizes1 IntZext size out = size ≤ out
TakesSizes1 IntSext size out = size ≤ out
TakesSizes1 PopCount size out = Unit {0}
TakesSizes1 LzCount size out = Unit {0}

-- a, b and the result have one size.
abbrev pub EqualSizes : ℕ → ℕ → ℕ → Type 0
EqualSizes size size_b out = (size_b ≡ size) × (out ≡ size)

-- a and b have one size, and the result is a byte.
abbrev pub TestSizes : ℕ → ℕ → ℕ → Type 0
TestSizes size size_b out = (size_b ≡ size) × (out ≡ 1)

-- a, b and the result are bytes.
abbrev pub ByteSizes : ℕ → ℕ → ℕ → Type 0
ByteSizes size size_b out = (size ≡ 1) × (size_b ≡ 1) × (out ≡ 1)

-- The sizes in bytes of a, of b and of the result that an operation takes, where b is this number.
abbrev pub TakesSizes2 : Op2 → ℕ → ℕ → ℕ → ℕ → Type 0
TakesSizes2 IntAdd size size_b out b = EqualSizes size size_b out
TakesSizes2 IntSub size size_b out b = EqualSizes size size_b out
TakesSizes2 IntMult size size_b out b = EqualSizes size size_b out
TakesSizes2 IntDiv size size_b out b = EqualSizes size size_b out
TakesSizes2 IntRem size size_b out b = EqualSizes size size_b out
TakesSizes2 IntSdiv size size_b out b = EqualSizes size size_b out
TakesSizes2 IntSrem size size_b out b = EqualSizes size size_b out
TakesSizes2 IntLeft size size_b out b = out ≡ size
TakesSizes2 IntRight size size_b out b = out ≡ size
TakesSizes2 IntSright size size_b out b = out ≡ size
TakesSizes2 IntAnd size size_b out b = EqualSizes size size_b out
TakesSizes2 IntOr size size_b out b = EqualSizes size size_b out
TakesSizes2 IntXor size size_b out b = EqualSizes size size_b out
TakesSizes2 IntEqual size size_b out b = TestSizes size size_b out
TakesSizes2 IntNotEqual size size_b out b = TestSizes size size_b out
TakesSizes2 IntLess size size_b out b = TestSizes size size_b out
TakesSizes2 IntLessEqual size size_b out b = TestSizes size size_b out
TakesSizes2 IntSless size size_b out b = TestSizes size size_b out
TakesSizes2 IntSlessEqual size size_b out b = TestSizes size size_b out
TakesSizes2 IntCarry size size_b out b = TestSizes size size_b out
TakesSizes2 IntScarry size size_b out b = TestSizes size size_b out
TakesSizes2 IntSborrow size size_b out b = TestSizes size size_b out
TakesSizes2 BoolAnd size size_b out b = ByteSizes size size_b out
TakesSizes2 BoolOr size size_b out b = ByteSizes size size_b out
TakesSizes2 BoolXor size size_b out b = ByteSizes size size_b out
TakesSizes2 Subpiece size size_b out b = out + b ≤ size

-- The operations that have no value where b is 0.
abbrev pub IsDivision : Op2 → Type 0
IsDivision IntDiv = Unit {0}
IsDivision IntRem = Unit {0}
IsDivision IntSdiv = Unit {0}
IsDivision IntSrem = Unit {0}
IsDivision _ = ⊥
