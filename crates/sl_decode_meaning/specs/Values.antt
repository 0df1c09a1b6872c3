-- meaning: the values of expressions in actions at a node (SLEIGH manual, "Disassembly Actions
-- Section"), in 64-bit two's complement.
use Rattle.std.specs.Prelude.{ℕ, ◌+◌, ℤ, pos, List, Option, None, Some, Result, Ok, Err, slice_get}
use Rattle.sl_ast.specs.Trees.{Expression, integer, named, paren, call, sized, dropped, bits}
use Rattle.sl_ast.specs.Trees.{prefix, star, binary}
use Rattle.sl_ast.specs.declared.expressions.BinaryOp.{BinaryOp}
use Rattle.sl_ast.specs.declared.expressions.PrefixOp.{PrefixOp}
use Rattle.sl_spec_operators.specs.Operators.{prefix_value, value_of, wrapped}
use Rattle.sl_decode_meaning.specs.Kinds.{kind_of}
use Rattle.sl_decode_meaning.specs.Lookups.{given}
use Rattle.sl_decode_meaning.specs.Outcomes.{◌>>=◌, or_fault}
use Rattle.sl_decode_meaning.specs.Places.{Leaf, first_place, or_start}
use Rattle.sl_decode_meaning.specs.declared.faults.Fault.{Fault}
use Rattle.sl_decode_meaning.specs.declared.faults.Fault.TheVariants.{ActionDivide}
use Rattle.sl_decode_meaning.specs.declared.kinds.Kind.{Kind}
use Rattle.sl_decode_meaning.specs.declared.kinds.Kind.TheVariants as k
use Rattle.sl_spec.specs.Tables.{Name, Operand}
use Rattle.sl_spec.specs.declared.tables.Tables.{Tables}

-- what values hang on: the number of the node's constructor, the instruction's bytes and the node's
-- place among them, the lengths of its operands, its context, the addresses of the instruction and
-- behind it, and the values of its action names so far
pub record Site : Type 0 where
  pub ctor : ℕ
  pub bytes : List ℕ
  pub at : ℕ
  pub lengths : List ℕ
  pub context : ℕ
  pub start : ℕ
  pub next : ℕ
  pub values : List ℤ

abbrev pub value_or_zero : Option ℤ → ℤ
value_or_zero None = pos 0
value_or_zero (Some n) = n

-- what a name gives: a field what it gives at its first occurrence, an action name its value
abbrev pub reads_kind : Tables → List Leaf → Site → Name → Kind → Result ℤ Fault
reads_kind t ls s name (k.Field id) =
    given t id s.bytes (s.at + or_start (first_place name ls)) s.context
reads_kind t ls s name (k.Action n) = Ok (value_or_zero (slice_get s.values n))
reads_kind t ls s name k.Start = Ok (wrapped (pos s.start))
reads_kind t ls s name k.Next = Ok (wrapped (pos s.next))
reads_kind t ls s name (k.Table id) = Ok (pos 0)
reads_kind t ls s name k.Nothing = Ok (pos 0)

abbrev pub reads : Tables → List Operand → List Leaf → Site → Name → Result ℤ Fault
reads t os ls s name = reads_kind t ls s name (kind_of t os name)

-- an operator over what its sides give, the left one first
abbrev pub operated : ℕ → BinaryOp → Result ℤ Fault → Result ℤ Fault → Result ℤ Fault
operated ctor op left right =
    left >>= λ a. right >>= λ b. or_fault (ActionDivide ctor) (value_of op a b)

abbrev pub prefixed : ℕ → PrefixOp → Result ℤ Fault → Result ℤ Fault
prefixed ctor op inner = inner >>= λ a. or_fault (ActionDivide ctor) (prefix_value op a)

-- the value of an expression in an action of a constructor, by what names give; what has no value
-- in a constraint, as a quotient by 0, has none here
unfoldable pub expression_value : ℕ → (Name → Result ℤ Fault) → Expression → Result ℤ Fault
expression_value ctor names (integer n) = Ok (wrapped (pos n))
expression_value ctor names (named name) = names name
expression_value ctor names (paren e) = expression_value ctor names e
expression_value ctor names (prefix op e) = prefixed ctor op (expression_value ctor names e)
expression_value ctor names (binary op l r) =
    operated ctor op (expression_value ctor names l) (expression_value ctor names r)
expression_value ctor names (call name es) = Err (ActionDivide ctor)
expression_value ctor names (sized e n) = Err (ActionDivide ctor)
expression_value ctor names (dropped e n) = Err (ActionDivide ctor)
expression_value ctor names (bits e low count) = Err (ActionDivide ctor)
expression_value ctor names (star space size e) = Err (ActionDivide ctor)
