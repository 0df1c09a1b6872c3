-- A jump to an address of the default space, and a call of a user operation that there is, may stand
-- in a faithful list; a jump to an address of another space, and a call of another number, may not.
use Rattle.std.proofs.Common.{◌≡◌, ℕ, ◌<◌, [], ◌∷◌, None, refl, arith}
use Rattle.std.specs.Prelude.{IfSome}
use Rattle.std.proofs.lemmas.List.Elements.{All-cons, All-head, All-nil}
use Rattle.sl_faithful_code.specs.Operations.{amount, in_space}
use Rattle.sl_section_equations.specs.Equations.{size_at}
use Rattle.sl_faithful_lists.specs.Targets.{AllCallUserOps, AllLeadToDefault, CallsUserOp}
use Rattle.sl_faithful_lists.specs.Targets.{LeadsToDefault}
use Rattle.sl_pcode.specs.Effects.{effect_of}
use Rattle.sl_pcode.specs.declared.code.Code.{Code}
use Rattle.sl_pcode.specs.declared.code.Code.TheVariants.{Branch, CallOther}
use Rattle.sl_pcode.specs.declared.operation.Op.{Op}
use Rattle.sl_pcode.specs.declared.varnode.Varnode.{Varnode}

abbrev op_with : Code → Varnode → Op
op_with code input =
    record { code = code; out = None; inputs = record { items = input ∷ []; capacity = 3 } }

abbrev jump_to : (space : ℕ) → Op
jump_to space = op_with Branch (in_space space 16 (size_at 2))

abbrev call_of : (userop : ℕ) → Op
call_of userop = op_with CallOther (amount userop)

-- the default space is the one of number 3
abbrev Leads : Op → Type 0
Leads op = IfSome (effect_of op) (LeadsToDefault 3)

jump_to_default : AllLeadToDefault 3 (jump_to 3 ∷ [])
jump_to_default = All-cons Leads (jump_to 3) [] refl (All-nil Leads)

no_jump_to_registers : AllLeadToDefault 3 (jump_to 1 ∷ []) → ⊥
no_jump_to_registers h = let same : 1 ≡ 3 = All-head Leads (jump_to 1) [] h in omega (arith, same)

-- there are two user operations
abbrev Calls : Op → Type 0
Calls op = IfSome (effect_of op) (CallsUserOp 2)

call_of_second : AllCallUserOps 2 (call_of 1 ∷ [])
call_of_second = All-cons Calls (call_of 1) [] (omega arith) (All-nil Calls)

no_call_of_third : AllCallUserOps 2 (call_of 2 ∷ []) → ⊥
no_call_of_third h = let less : 2 < 2 = All-head Calls (call_of 2) [] h in omega (arith, less)
