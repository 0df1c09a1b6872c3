-- meaning: the names of the codes, and the kinds of operands that they take.
use Rattle.std.specs.Prelude.{ℕ, List, codes}
use Rattle.sl_word.specs.declared.operation.Op1.TheVariants as one
use Rattle.sl_word.specs.declared.operation.Op2.TheVariants as two
use Rattle.sl_pcode.specs.declared.code.Code.{Code}
use Rattle.sl_pcode.specs.declared.code.Code.TheVariants as code
use Rattle.sl_pcode.specs.declared.code.Kind.{Kind}
use Rattle.sl_pcode.specs.declared.code.Kind.TheVariants.{Unary, Binary, Load, Store, Branch, CBranch, Call, Indirect, UserOp}

-- What operands a code takes, and what it does with them.
abbrev pub kind_of : Code → Kind
kind_of code.Copy = Unary one.Copy
kind_of code.IntAdd = Binary two.IntAdd
kind_of code.IntSub = Binary two.IntSub
kind_of code.IntMult = Binary two.IntMult
kind_of code.IntDiv = Binary two.IntDiv
kind_of code.IntRem = Binary two.IntRem
kind_of code.IntSdiv = Binary two.IntSdiv
kind_of code.IntSrem = Binary two.IntSrem
kind_of code.IntLeft = Binary two.IntLeft
kind_of code.IntRight = Binary two.IntRight
kind_of code.IntSright = Binary two.IntSright
kind_of code.IntAnd = Binary two.IntAnd
kind_of code.IntOr = Binary two.IntOr
kind_of code.IntXor = Binary two.IntXor
kind_of code.IntNegate = Unary one.IntNegate
kind_of code.Int2Comp = Unary one.Int2Comp
kind_of code.IntEqual = Binary two.IntEqual
kind_of code.IntNotEqual = Binary two.IntNotEqual
kind_of code.IntLess = Binary two.IntLess
kind_of code.IntLessEqual = Binary two.IntLessEqual
kind_of code.IntSless = Binary two.IntSless
kind_of code.IntSlessEqual = Binary two.IntSlessEqual
kind_of code.IntCarry = Binary two.IntCarry
kind_of code.IntScarry = Binary two.IntScarry
kind_of code.IntSborrow = Binary two.IntSborrow
kind_of code.BoolNegate = Unary one.BoolNegate
kind_of code.BoolAnd = Binary two.BoolAnd
kind_of code.BoolOr = Binary two.BoolOr
kind_of code.BoolXor = Binary two.BoolXor
kind_of code.IntZext = Unary one.IntZext
kind_of code.IntSext = Unary one.IntSext
kind_of code.Subpiece = Binary two.Subpiece
kind_of code.PopCount = Unary one.PopCount
kind_of code.LzCount = Unary one.LzCount
kind_of code.Load = Load
kind_of code.Store = Store
kind_of code.Branch = Branch
kind_of code.CBranch = CBranch
kind_of code.BranchInd = Indirect
kind_of code.Call = Call
kind_of code.CallInd = Indirect
kind_of code.Return = Indirect
kind_of code.CallOther = UserOp

-- The name of a code in the P-Code Reference Manual.
abbrev pub name_of : Code → List ℕ
name_of code.Copy = codes "COPY"
name_of code.IntAdd = codes "INT_ADD"
name_of code.IntSub = codes "INT_SUB"
name_of code.IntMult = codes "INT_MULT"
name_of code.IntDiv = codes "INT_DIV"
name_of code.IntRem = codes "INT_REM"
name_of code.IntSdiv = codes "INT_SDIV"
name_of code.IntSrem = codes "INT_SREM"
name_of code.IntLeft = codes "INT_LEFT"
name_of code.IntRight = codes "INT_RIGHT"
name_of code.IntSright = codes "INT_SRIGHT"
name_of code.IntAnd = codes "INT_AND"
name_of code.IntOr = codes "INT_OR"
name_of code.IntXor = codes "INT_XOR"
name_of code.IntNegate = codes "INT_NEGATE"
name_of code.Int2Comp = codes "INT_2COMP"
name_of code.IntEqual = codes "INT_EQUAL"
name_of code.IntNotEqual = codes "INT_NOTEQUAL"
name_of code.IntLess = codes "INT_LESS"
name_of code.IntLessEqual = codes "INT_LESSEQUAL"
name_of code.IntSless = codes "INT_SLESS"
name_of code.IntSlessEqual = codes "INT_SLESSEQUAL"
name_of code.IntCarry = codes "INT_CARRY"
name_of code.IntScarry = codes "INT_SCARRY"
name_of code.IntSborrow = codes "INT_SBORROW"
name_of code.BoolNegate = codes "BOOL_NEGATE"
name_of code.BoolAnd = codes "BOOL_AND"
name_of code.BoolOr = codes "BOOL_OR"
name_of code.BoolXor = codes "BOOL_XOR"
name_of code.IntZext = codes "INT_ZEXT"
name_of code.IntSext = codes "INT_SEXT"
name_of code.Subpiece = codes "SUBPIECE"
name_of code.PopCount = codes "POPCOUNT"
name_of code.LzCount = codes "LZCOUNT"
name_of code.Load = codes "LOAD"
name_of code.Store = codes "STORE"
name_of code.Branch = codes "BRANCH"
name_of code.CBranch = codes "CBRANCH"
name_of code.BranchInd = codes "BRANCHIND"
name_of code.Call = codes "CALL"
name_of code.CallInd = codes "CALLIND"
name_of code.Return = codes "RETURN"
name_of code.CallOther = codes "CALLOTHER"
