-- meaning: the bytes of byte orders, attributes, kinds, relations and operators.
use Rattle.std.specs.Prelude.{ℕ, List, [], ◌∷◌}
use Rattle.sl_ast.specs.declared.definitions.AttachKind.{AttachKind}
use Rattle.sl_ast.specs.declared.definitions.AttachKind.TheVariants as a
use Rattle.sl_ast.specs.declared.definitions.ByteOrder.{ByteOrder}
use Rattle.sl_ast.specs.declared.definitions.ByteOrder.TheVariants as o
use Rattle.sl_ast.specs.declared.definitions.FieldAttribute.{FieldAttribute}
use Rattle.sl_ast.specs.declared.definitions.FieldAttribute.TheVariants as f
use Rattle.sl_ast.specs.declared.expressions.BinaryOp.{BinaryOp}
use Rattle.sl_ast.specs.declared.expressions.BinaryOp.TheVariants as b
use Rattle.sl_ast.specs.declared.expressions.PrefixOp.{PrefixOp}
use Rattle.sl_ast.specs.declared.expressions.PrefixOp.TheVariants as p
use Rattle.sl_ast.specs.declared.patterns.Relation.{Relation}
use Rattle.sl_ast.specs.declared.patterns.Relation.TheVariants as r

-- in the order of their bytes
abbrev pub byte_orders : List ByteOrder
byte_orders = o.Big ∷ o.Little ∷ []

abbrev pub order_code : ByteOrder → ℕ
order_code o.Big = 0
order_code o.Little = 1

abbrev pub field_attributes : List FieldAttribute
field_attributes = f.Signed ∷ f.Hex ∷ f.Dec ∷ f.NoFlow ∷ []

abbrev pub attribute_code : FieldAttribute → ℕ
attribute_code f.Signed = 0
attribute_code f.Hex = 1
attribute_code f.Dec = 2
attribute_code f.NoFlow = 3

abbrev pub attach_kinds : List AttachKind
attach_kinds = a.Variables ∷ a.Names ∷ a.Values ∷ []

abbrev pub kind_code : AttachKind → ℕ
kind_code a.Variables = 0
kind_code a.Names = 1
kind_code a.Values = 2

abbrev pub relations : List Relation
relations = r.Equal ∷ r.NotEqual ∷ r.Less ∷ r.LessEqual ∷ r.Greater ∷ r.GreaterEqual ∷ []

abbrev pub relation_code : Relation → ℕ
relation_code r.Equal = 0
relation_code r.NotEqual = 1
relation_code r.Less = 2
relation_code r.LessEqual = 3
relation_code r.Greater = 4
relation_code r.GreaterEqual = 5

abbrev pub prefixes : List PrefixOp
prefixes = p.Negate ∷ p.Complement ∷ p.Not ∷ []

abbrev pub prefix_code : PrefixOp → ℕ
prefix_code p.Negate = 0
prefix_code p.Complement = 1
prefix_code p.Not = 2

abbrev pub operators : List BinaryOp
operators =
    b.Multiply ∷ b.Divide ∷ b.Remainder ∷ b.SignedDivide ∷ b.SignedRemainder ∷ b.Add ∷ b.Subtract ∷ b.ShiftLeft ∷ b.ShiftRight ∷ b.SignedShiftRight
    ∷ b.Less ∷ b.LessEqual ∷ b.Greater ∷ b.GreaterEqual ∷ b.SignedLess ∷ b.SignedLessEqual ∷ b.SignedGreater ∷ b.SignedGreaterEqual ∷ b.Equal ∷ b.NotEqual
    ∷ b.And ∷ b.Xor ∷ b.Or ∷ b.BooleanAnd ∷ b.BooleanXor ∷ b.BooleanOr ∷ b.WordAnd ∷ b.WordXor ∷ b.WordOr ∷ []

abbrev pub operator_code : BinaryOp → ℕ
operator_code b.Multiply = 0
operator_code b.Divide = 1
operator_code b.Remainder = 2
operator_code b.SignedDivide = 3
operator_code b.SignedRemainder = 4
operator_code b.Add = 5
operator_code b.Subtract = 6
operator_code b.ShiftLeft = 7
operator_code b.ShiftRight = 8
operator_code b.SignedShiftRight = 9
operator_code b.Less = 10
operator_code b.LessEqual = 11
operator_code b.Greater = 12
operator_code b.GreaterEqual = 13
operator_code b.SignedLess = 14
operator_code b.SignedLessEqual = 15
operator_code b.SignedGreater = 16
operator_code b.SignedGreaterEqual = 17
operator_code b.Equal = 18
operator_code b.NotEqual = 19
operator_code b.And = 20
operator_code b.Xor = 21
operator_code b.Or = 22
operator_code b.BooleanAnd = 23
operator_code b.BooleanXor = 24
operator_code b.BooleanOr = 25
operator_code b.WordAnd = 26
operator_code b.WordXor = 27
operator_code b.WordOr = 28
