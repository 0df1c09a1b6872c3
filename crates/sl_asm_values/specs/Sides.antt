-- step: what a wanted value says of the sides of an operator.
use Rattle.std.specs.Prelude.{◌≡◌, ℤ, Some}
use Rattle.sl_asm_bits.specs.Known.{HasBits}
use Rattle.sl_asm_bits.specs.declared.Known.{Known}
use Rattle.sl_ast.specs.declared.expressions.BinaryOp.{BinaryOp}
use Rattle.sl_spec_operators.specs.Operators.{value_of}

-- Where both sides of the operator have the bits that are known of them, and the value has the wanted
-- ones, they have those that are told, too.
pub record AreSides (sign : BinaryOp) (wanted first second one other : Known) : Type 0 where
  pub left : (x y z : ℤ) → HasBits first x → HasBits second y → value_of sign x y ≡ Some z → HasBits wanted z → HasBits one x
  pub right : (x y z : ℤ) → HasBits first x → HasBits second y → value_of sign x y ≡ Some z → HasBits wanted z → HasBits other y
