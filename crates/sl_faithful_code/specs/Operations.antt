-- law: operations by their parts, and where locals and temporary values lie.
use Rattle.std.specs.Prelude.{ℕ, ◌+◌, ◌-◌, ◌*◌, ◌%◌, ◌^◌, ◌==◌, ◌&&◌, Bool, true, false}
use Rattle.std.specs.Prelude.{if◌then◌else◌, List, [], ◌∷◌, Option, Some, None, slice_index}
use Rattle.sl_section_equations.specs.Equations.{size_at}
use Rattle.sl_pcode.specs.Codes.{kind_of}
use Rattle.sl_pcode.specs.Effects.{effect_by}
use Rattle.sl_pcode.specs.declared.code.Code.{Code}
use Rattle.sl_pcode.specs.declared.code.Code.TheVariants as code
use Rattle.sl_pcode.specs.declared.effect.Effect.{Effect}
use Rattle.sl_pcode.specs.declared.operation.Op.{Op}
use Rattle.sl_pcode.specs.declared.varnode.Place2.{Place2}
use Rattle.sl_pcode.specs.declared.varnode.Place2.TheVariants.{Const, Unique, In}
use Rattle.sl_pcode.specs.declared.varnode.Varnode.{Varnode}
use Rattle.sl_word.specs.declared.operation.Op1.{Op1}
use Rattle.sl_word.specs.declared.operation.Op1.TheVariants as one
use Rattle.sl_word.specs.declared.operation.Op2.{Op2}
use Rattle.sl_word.specs.declared.operation.Op2.TheVariants as two
use Rattle.sl_word.specs.declared.word.Endian.{Endian}
use Rattle.sl_word.specs.declared.word.Endian.TheVariants.{Little, Big}
use Rattle.sl_word.specs.declared.word.Size.{Size}

-- An operation: its code, the varnode that its value goes to, and those that it reads.
pub record Operation : Type 0 where
  pub code : Code
  pub out : Option Varnode
  pub inputs : List Varnode

abbrev pub operation_of : Op → Operation
operation_of op = record { code = op.code; out = op.out; inputs = op.inputs.items }

abbrev pub effect : Operation → Option Effect
effect o = effect_by (kind_of o.code) o.out o.inputs

-- ---- varnodes

abbrev pub constant : (v : ℕ) → Size → Varnode
constant v n = record { place = Const; offset = v; size = n }

abbrev pub temporary : (offset : ℕ) → Size → Varnode
temporary offset n = record { place = Unique; offset = offset; size = n }

abbrev pub in_space : (space offset : ℕ) → Size → Varnode
in_space space offset n = record { place = In (record { 0 = space }); offset = offset; size = n }

-- an amount of a shift, of bytes that are dropped, and a distance in the list
abbrev pub amount : ℕ → Varnode
amount v = constant v (size_at 4)

-- ---- the lowest bytes of a varnode, as a varnode

-- how many bytes lie before the lowest `n` of `size`
abbrev pub bytes_before : Endian → (size n : ℕ) → ℕ
bytes_before Little size n = 0
bytes_before Big size n = size - n

-- A constant is cut; in a space, what would go past the end goes on at 0.
abbrev pub offset_after : List ℕ → Place2 → (offset before n : ℕ) → ℕ
offset_after sizes Const offset before n = offset % 256 ^ n
offset_after sizes Unique offset before n = offset + before
offset_after sizes (In space) offset before n =
    (offset + before) % 256 ^ slice_index sizes space.0

abbrev pub narrow : Endian → List ℕ → Varnode → Size → Varnode
narrow endian sizes v n = record {
  place = v.place;
  offset = offset_after sizes v.place v.offset (bytes_before endian v.size.bytes n.bytes) n.bytes;
  size = n;
}

-- ---- operations

abbrev pub unary_code : Op1 → Code
unary_code one.Copy = code.Copy
unary_code one.IntNegate = code.IntNegate
unary_code one.Int2Comp = code.Int2Comp
unary_code one.BoolNegate = code.BoolNegate
unary_code one.IntZext = code.IntZext
unary_code one.IntSext = code.IntSext
unary_code one.PopCount = code.PopCount
unary_code one.LzCount = code.LzCount

abbrev pub binary_code : Op2 → Code
binary_code two.IntAdd = code.IntAdd
binary_code two.IntSub = code.IntSub
binary_code two.IntMult = code.IntMult
binary_code two.IntDiv = code.IntDiv
binary_code two.IntRem = code.IntRem
binary_code two.IntSdiv = code.IntSdiv
binary_code two.IntSrem = code.IntSrem
binary_code two.IntLeft = code.IntLeft
binary_code two.IntRight = code.IntRight
binary_code two.IntSright = code.IntSright
binary_code two.IntAnd = code.IntAnd
binary_code two.IntOr = code.IntOr
binary_code two.IntXor = code.IntXor
binary_code two.IntEqual = code.IntEqual
binary_code two.IntNotEqual = code.IntNotEqual
binary_code two.IntLess = code.IntLess
binary_code two.IntLessEqual = code.IntLessEqual
binary_code two.IntSless = code.IntSless
binary_code two.IntSlessEqual = code.IntSlessEqual
binary_code two.IntCarry = code.IntCarry
binary_code two.IntScarry = code.IntScarry
binary_code two.IntSborrow = code.IntSborrow
binary_code two.BoolAnd = code.BoolAnd
binary_code two.BoolOr = code.BoolOr
binary_code two.BoolXor = code.BoolXor
binary_code two.Subpiece = code.Subpiece

-- an operation of this operator
abbrev pub by_one : Op1 → (out a : Varnode) → Operation
by_one f out a = record { code = unary_code f; out = Some out; inputs = a ∷ [] }

abbrev pub by_two : Op2 → (out a b : Varnode) → Operation
by_two f out a b = record { code = binary_code f; out = Some out; inputs = a ∷ b ∷ [] }

-- the constant 0
abbrev pub is_zero_at : Place2 → (offset : ℕ) → Bool
is_zero_at Const offset = offset == 0
is_zero_at _ offset = false

abbrev pub is_zero : Varnode → Bool
is_zero v = is_zero_at v.place v.offset

-- A value that isn't extended is the value itself.
abbrev pub keeps : Op1 → (out a : ℕ) → Bool
keeps one.IntZext out a = out == a
keeps one.IntSext out a = out == a
keeps _ out a = false

-- the operators of which 0 as the second operand leaves the first as it is: a sum, shifts, and
-- bytes that are dropped
abbrev pub takes_nothing : Op2 → Bool
takes_nothing two.IntAdd = true
takes_nothing two.IntLeft = true
takes_nothing two.IntRight = true
takes_nothing two.IntSright = true
takes_nothing two.Subpiece = true
takes_nothing _ = false

abbrev pub keeps_first : Op2 → (out a : ℕ) → (b : Varnode) → Bool
keeps_first f out a b = takes_nothing f && (is_zero b && (out == a))

abbrev pub keeps_second : Op2 → (out : ℕ) → (a : Varnode) → Bool
keeps_second two.IntAdd out a = is_zero a && (out == a.size.bytes)
keeps_second _ out a = false

-- the operation that gives an operator's value: a COPY where that is the operand's own
unfoldable pub unary : Op1 → (out a : Varnode) → Operation
unary f out a = by_one (if keeps f out.size.bytes a.size.bytes then one.Copy else f) out a

unfoldable pub binary : Op2 → (out a b : Varnode) → Operation
binary f out a b =
    if keeps_first f out.size.bytes a.size.bytes b then by_one one.Copy out a
    else if keeps_second f out.size.bytes a then by_one one.Copy out b
    else by_two f out a b

abbrev pub load_from : (out : Varnode) → (space : ℕ) → (pointer : Varnode) → Operation
load_from out space pointer =
    record { code = code.Load; out = Some out; inputs = amount space ∷ pointer ∷ [] }

abbrev pub store_to : (space : ℕ) → (pointer v : Varnode) → Operation
store_to space pointer v =
    record { code = code.Store; out = None; inputs = amount space ∷ pointer ∷ v ∷ [] }

-- a jump, a call or a return, and a jump where a condition isn't 0
abbrev pub exit : Code → Varnode → Operation
exit kind target = record { code = kind; out = None; inputs = target ∷ [] }

abbrev pub exit_if : (target condition : Varnode) → Operation
exit_if target condition =
    record { code = code.CBranch; out = None; inputs = target ∷ condition ∷ [] }

abbrev pub call_user : (op : ℕ) → List Varnode → Operation
call_user op arguments =
    record { code = code.CallOther; out = None; inputs = amount op ∷ arguments }

-- ---- temporary bytes

-- where a local of a node lies: a node has at most 65,536, of at most 16 bytes
abbrev pub range_of : (node x : ℕ) → ℕ
range_of node x = (node * 65536 + x) * 16

-- a temporary value, above all locals
abbrev pub at_temp : (top t : ℕ) → Size → Varnode
at_temp top t n = temporary (top + t * 16) n
