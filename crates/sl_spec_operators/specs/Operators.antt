-- meaning: the operators of constraints and of disassembly actions, in 64-bit two's complement
-- (SLEIGH manual, "Constraints" and "Disassembly Actions Section").
use Rattle.std.specs.Prelude.{ℕ, ℤ, pos, negsuc, neg_ℤ, ◌+ℤ◌, ◌-ℤ◌, ◌*ℤ◌, ◌==◌, nat_lt}
use Rattle.std.specs.Prelude.{Option, Some, None, if◌then◌else◌}
use Rattle.std.specs.Int.{w64, cast_unsigned, int_wrap, int_wrapping_div, int_shl, int_shr}
use Rattle.std.specs.Int.{int_bit_and, int_bit_or, int_bit_xor}
use Rattle.sl_ast.specs.declared.expressions.BinaryOp.{BinaryOp}
use Rattle.sl_ast.specs.declared.expressions.BinaryOp.TheVariants as op
use Rattle.sl_ast.specs.declared.expressions.PrefixOp.{PrefixOp}
use Rattle.sl_ast.specs.declared.expressions.PrefixOp.TheVariants as before

-- a whole number brought into 64-bit two's complement
abbrev pub wrapped : ℤ → ℤ
wrapped z = int_wrap w64 z

-- the quotient rounded toward zero; none by 0
abbrev pub quotient : ℤ → ℤ → Option ℤ
quotient a b = if cast_unsigned w64 b == 0 then None else Some (int_wrapping_div w64 a b)

-- an amount of a shift is read as an unsigned number; from 64 on nothing of the number is left
abbrev pub left_by : ℤ → ℕ → ℤ
left_by a n = if nat_lt n 64 then int_shl w64 a n else pos 0

-- the sign is kept
abbrev pub right_by : ℤ → ℕ → ℤ
right_by a n = if nat_lt n 64 then int_shr a n else int_shr a 63

-- what an operator gives; none where a divisor is 0, or where constraints and actions have no such
-- operator
abbrev pub value_of : BinaryOp → ℤ → ℤ → Option ℤ
value_of op.Multiply a b = Some (wrapped (a *ℤ b))
value_of op.Divide a b = quotient a b
value_of op.Add a b = Some (wrapped (a +ℤ b))
value_of op.Subtract a b = Some (wrapped (a -ℤ b))
value_of op.ShiftLeft a b = Some (left_by a (cast_unsigned w64 b))
value_of op.ShiftRight a b = Some (right_by a (cast_unsigned w64 b))
value_of op.And a b = Some (int_bit_and w64 a b)
value_of op.Xor a b = Some (int_bit_xor w64 a b)
value_of op.Or a b = Some (int_bit_or w64 a b)
value_of op.WordAnd a b = Some (int_bit_and w64 a b)
value_of op.WordXor a b = Some (int_bit_xor w64 a b)
value_of op.WordOr a b = Some (int_bit_or w64 a b)
value_of _ a b = None

abbrev pub prefix_value : PrefixOp → ℤ → Option ℤ
prefix_value before.Negate a = Some (wrapped (neg_ℤ a))
prefix_value before.Complement a = Some (negsuc 0 -ℤ a)
prefix_value before.Not a = None
