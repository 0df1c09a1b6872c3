-- The tables count their members.
use Rattle.std.proofs.Common.{◌≡◌, Some, slice_get, refl}
use Rattle.sl_ast.specs.declared.definitions.AttachKind.{AttachKind}
use Rattle.sl_ast.specs.declared.definitions.AttachKind.TheVariants as a
use Rattle.sl_ast.specs.declared.definitions.ByteOrder.{ByteOrder}
use Rattle.sl_ast.specs.declared.definitions.ByteOrder.TheVariants as o
use Rattle.sl_ast.specs.declared.definitions.FieldAttribute.{FieldAttribute}
use Rattle.sl_ast.specs.declared.definitions.FieldAttribute.TheVariants as f
use Rattle.sl_ast.specs.declared.expressions.BinaryOp.{BinaryOp}
use Rattle.sl_ast.specs.declared.expressions.BinaryOp.TheVariants as b
use Rattle.sl_ast.specs.declared.expressions.PrefixOp.{PrefixOp}
use Rattle.sl_ast.specs.declared.expressions.PrefixOp.TheVariants as p
use Rattle.sl_ast.specs.declared.patterns.Relation.{Relation}
use Rattle.sl_ast.specs.declared.patterns.Relation.TheVariants as r
use Rattle.sl_store_bytes.specs.Orders.{byte_orders, order_code, field_attributes, attribute_code, attach_kinds, kind_code, relations, relation_code, prefixes, prefix_code, operators, operator_code}
use Rattle.sl_store_bytes.proofs.RuleLaws.{Counts}

order_there : (k : ByteOrder) → slice_get byte_orders (order_code k) ≡ Some k
order_there o.Big = refl
order_there k = refl

pub orders_count : Counts byte_orders order_code
orders_count = record { there = order_there; back = refl }

attribute_there : (k : FieldAttribute) → slice_get field_attributes (attribute_code k) ≡ Some k
attribute_there f.Signed = refl
attribute_there k = refl

pub attributes_count : Counts field_attributes attribute_code
attributes_count = record { there = attribute_there; back = refl }

kind_there : (k : AttachKind) → slice_get attach_kinds (kind_code k) ≡ Some k
kind_there a.Variables = refl
kind_there k = refl

pub kinds_count : Counts attach_kinds kind_code
kinds_count = record { there = kind_there; back = refl }

relation_there : (k : Relation) → slice_get relations (relation_code k) ≡ Some k
relation_there r.Equal = refl
relation_there k = refl

pub relations_count : Counts relations relation_code
relations_count = record { there = relation_there; back = refl }

prefix_there : (k : PrefixOp) → slice_get prefixes (prefix_code k) ≡ Some k
prefix_there p.Negate = refl
prefix_there k = refl

pub prefixes_count : Counts prefixes prefix_code
prefixes_count = record { there = prefix_there; back = refl }

operator_there : (k : BinaryOp) → slice_get operators (operator_code k) ≡ Some k
operator_there b.Multiply = refl
operator_there k = refl

pub operators_count : Counts operators operator_code
operators_count = record { there = operator_there; back = refl }
