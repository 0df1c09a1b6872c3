-- view: operations as numbers.
use Rattle.std.specs.Prelude.{ℕ, ◌+◌, List, [], ◌∷◌, ◌++◌, length, Option, Some, None}
use Rattle.std.specs.List.{flat_map}
use Rattle.sl_pcode.specs.declared.code.Code.{Code}
use Rattle.sl_pcode.specs.declared.code.Code.TheVariants as code
use Rattle.sl_pcode.specs.declared.operation.Op.{Op}
use Rattle.sl_pcode.specs.declared.varnode.Place2.{Place2}
use Rattle.sl_pcode.specs.declared.varnode.Place2.TheVariants.{Const, In, Unique}
use Rattle.sl_pcode.specs.declared.varnode.Varnode.{Varnode}

-- the number that Ghidra's decompiler gives a code
abbrev pub number_of_code : Code → ℕ
number_of_code code.Copy = 1
number_of_code code.Load = 2
number_of_code code.Store = 3
number_of_code code.Branch = 4
number_of_code code.CBranch = 5
number_of_code code.BranchInd = 6
number_of_code code.Call = 7
number_of_code code.CallInd = 8
number_of_code code.CallOther = 9
number_of_code code.Return = 10
number_of_code code.IntEqual = 11
number_of_code code.IntNotEqual = 12
number_of_code code.IntSless = 13
number_of_code code.IntSlessEqual = 14
number_of_code code.IntLess = 15
number_of_code code.IntLessEqual = 16
number_of_code code.IntZext = 17
number_of_code code.IntSext = 18
number_of_code code.IntAdd = 19
number_of_code code.IntSub = 20
number_of_code code.IntCarry = 21
number_of_code code.IntScarry = 22
number_of_code code.IntSborrow = 23
number_of_code code.Int2Comp = 24
number_of_code code.IntNegate = 25
number_of_code code.IntXor = 26
number_of_code code.IntAnd = 27
number_of_code code.IntOr = 28
number_of_code code.IntLeft = 29
number_of_code code.IntRight = 30
number_of_code code.IntSright = 31
number_of_code code.IntMult = 32
number_of_code code.IntDiv = 33
number_of_code code.IntSdiv = 34
number_of_code code.IntRem = 35
number_of_code code.IntSrem = 36
number_of_code code.BoolNegate = 37
number_of_code code.BoolXor = 38
number_of_code code.BoolAnd = 39
number_of_code code.BoolOr = 40
number_of_code code.Subpiece = 63
number_of_code code.PopCount = 72
number_of_code code.LzCount = 73

-- a constant, temporary bytes, or an address space
abbrev pub number_of_place : Place2 → ℕ
number_of_place Const = 0
number_of_place Unique = 1
number_of_place (In space) = 2 + space.0

-- the place, the offset and the size
abbrev pub numbers_of_varnode : Varnode → List ℕ
numbers_of_varnode v = number_of_place v.place ∷ v.offset ∷ v.size.bytes ∷ []

abbrev pub numbers_of_out : Option Varnode → List ℕ
numbers_of_out None = 0 ∷ []
numbers_of_out (Some v) = 1 ∷ numbers_of_varnode v

-- the code, the output, how many inputs there are, and these
abbrev pub numbers_of_op : Op → List ℕ
numbers_of_op op = (number_of_code op.code ∷ [])
    ++ (numbers_of_out op.out
    ++ ((length op.inputs.items ∷ []) ++ flat_map numbers_of_varnode op.inputs.items))
