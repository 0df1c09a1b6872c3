-- meaning: where operations may lead, and which user operations they may call (P-Code Reference
-- Manual, BRANCH, CBRANCH, CALL, CALLOTHER).
use Rattle.std.specs.Prelude.{◌≡◌, ℕ, ◌<◌, ⊤, IfSome, List}
use Rattle.std.specs.List.{All}
use Rattle.sl_pcode.specs.Effects.{effect_of}
use Rattle.sl_pcode.specs.declared.effect.Effect.{Effect}
use Rattle.sl_pcode.specs.declared.effect.Effect.TheVariants.{Branch, CBranch, Call, UserOp}
use Rattle.sl_pcode.specs.declared.operation.Op.{Op}
use Rattle.sl_pcode.specs.declared.varnode.Place2.{Place2}
use Rattle.sl_pcode.specs.declared.varnode.Place2.TheVariants.{Const, Unique, In}
use Rattle.sl_pcode.specs.declared.varnode.Varnode.{Varnode}

-- A target in a space is one in the default space.
abbrev pub IsInDefaultAt : (default : ℕ) → Place2 → Type 0
IsInDefaultAt default (In space) = space.0 ≡ default
IsInDefaultAt default Const = ⊤
IsInDefaultAt default Unique = ⊤

abbrev pub IsInDefault : (default : ℕ) → Varnode → Type 0
IsInDefault default target = IsInDefaultAt default target.place

-- So is the target of a BRANCH, a CBRANCH or a CALL.
abbrev pub LeadsToDefault : (default : ℕ) → Effect → Type 0
LeadsToDefault default (Branch target) = IsInDefault default target
LeadsToDefault default (CBranch target condition) = IsInDefault default target
LeadsToDefault default (Call target) = IsInDefault default target
LeadsToDefault default _ = ⊤

-- The number of a CALLOTHER is that of a user operation, of which there are `userops`.
abbrev pub CallsUserOp : (userops : ℕ) → Effect → Type 0
CallsUserOp userops (UserOp number) = number.offset < userops
CallsUserOp userops _ = ⊤

-- ---- each operation of a list

abbrev pub AllLeadToDefault : (default : ℕ) → List Op → Type 0
AllLeadToDefault default ops = All (λ op. IfSome (effect_of op) (LeadsToDefault default)) ops

abbrev pub AllCallUserOps : (userops : ℕ) → List Op → Type 0
AllCallUserOps userops ops = All (λ op. IfSome (effect_of op) (CallsUserOp userops)) ops
