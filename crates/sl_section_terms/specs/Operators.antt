-- meaning: operators and functions as operations of p-code (SLEIGH manual, "Operators"; P-Code
-- Reference Manual).
use Rattle.std.specs.Prelude.{codes, Option, Some, None, if◌then◌else◌}
use Rattle.std.specs.Str.{bytes_eq}
use Rattle.sl_ast.specs.declared.expressions.BinaryOp.{BinaryOp}
use Rattle.sl_ast.specs.declared.expressions.BinaryOp.TheVariants as b
use Rattle.sl_ast.specs.declared.expressions.PrefixOp.{PrefixOp}
use Rattle.sl_ast.specs.declared.expressions.PrefixOp.TheVariants as p
use Rattle.sl_section_flat.specs.declared.term.Order.{Order}
use Rattle.sl_section_flat.specs.declared.term.Order.TheVariants.{AsWritten, Exchanged}
use Rattle.sl_spec.specs.Tables.{Name}
use Rattle.sl_word.specs.declared.operation.Op1.{Op1}
use Rattle.sl_word.specs.declared.operation.Op1.TheVariants as o1
use Rattle.sl_word.specs.declared.operation.Op2.{Op2}
use Rattle.sl_word.specs.declared.operation.Op2.TheVariants as o2

abbrev pub prefix_operation : PrefixOp → Op1
prefix_operation p.Negate = o1.Int2Comp
prefix_operation p.Complement = o1.IntNegate
prefix_operation p.Not = o1.BoolNegate

-- The spellings `$and`, `$xor` and `$or` stand in no section.
abbrev pub operation : BinaryOp → Op2
operation b.Multiply = o2.IntMult
operation b.Divide = o2.IntDiv
operation b.Remainder = o2.IntRem
operation b.SignedDivide = o2.IntSdiv
operation b.SignedRemainder = o2.IntSrem
operation b.Add = o2.IntAdd
operation b.Subtract = o2.IntSub
operation b.ShiftLeft = o2.IntLeft
operation b.ShiftRight = o2.IntRight
operation b.SignedShiftRight = o2.IntSright
operation b.Less = o2.IntLess
operation b.LessEqual = o2.IntLessEqual
operation b.Greater = o2.IntLess
operation b.GreaterEqual = o2.IntLessEqual
operation b.SignedLess = o2.IntSless
operation b.SignedLessEqual = o2.IntSlessEqual
operation b.SignedGreater = o2.IntSless
operation b.SignedGreaterEqual = o2.IntSlessEqual
operation b.Equal = o2.IntEqual
operation b.NotEqual = o2.IntNotEqual
operation b.And = o2.IntAnd
operation b.Xor = o2.IntXor
operation b.Or = o2.IntOr
operation b.BooleanAnd = o2.BoolAnd
operation b.BooleanXor = o2.BoolXor
operation b.BooleanOr = o2.BoolOr
operation b.WordAnd = o2.IntAnd
operation b.WordXor = o2.IntXor
operation b.WordOr = o2.IntOr

-- `a > b` is `b < a`, and its like
abbrev pub order : BinaryOp → Order
order b.Greater = Exchanged
order b.GreaterEqual = Exchanged
order b.SignedGreater = Exchanged
order b.SignedGreaterEqual = Exchanged
order _ = AsWritten

-- functions of one argument
abbrev pub unary_function : Name → Option Op1
unary_function w = if bytes_eq w (codes "zext") then Some o1.IntZext
    else if bytes_eq w (codes "sext") then Some o1.IntSext
    else if bytes_eq w (codes "popcount") then Some o1.PopCount
    else if bytes_eq w (codes "lzcount") then Some o1.LzCount else None

-- functions of two arguments
abbrev pub binary_function : Name → Option Op2
binary_function w = if bytes_eq w (codes "carry") then Some o2.IntCarry
    else if bytes_eq w (codes "scarry") then Some o2.IntScarry
    else if bytes_eq w (codes "sborrow") then Some o2.IntSborrow else None
