-- meaning: operations that do something, and that the manual allows: a list has no others (P-Code
-- Reference Manual, INT_ZEXT and INT_SEXT: the output must be larger than the input).
use Rattle.std.specs.Prelude.{◌≡◌, ◌≢◌, ℕ, ⊤, IfSome, List}
use Rattle.std.specs.List.{All}
use Rattle.sl_pcode.specs.Effects.{effect_of}
use Rattle.sl_pcode.specs.declared.effect.Effect.{Effect}
use Rattle.sl_pcode.specs.declared.effect.Effect.TheVariants.{Unary, Binary}
use Rattle.sl_pcode.specs.declared.operation.Op.{Op}
use Rattle.sl_pcode.specs.declared.varnode.Place2.TheVariants.{Const}
use Rattle.sl_pcode.specs.declared.varnode.Varnode.{Varnode}
use Rattle.sl_word.specs.declared.operation.Op1.{Op1}
use Rattle.sl_word.specs.declared.operation.Op1.TheVariants.{IntSext, IntZext}
use Rattle.sl_word.specs.declared.operation.Op2.{Op2}
use Rattle.sl_word.specs.declared.operation.Op2.TheVariants.{IntAdd, IntLeft, IntRight, IntSright}
use Rattle.sl_word.specs.declared.operation.Op2.TheVariants.{Subpiece}

-- It isn't the constant 0.
abbrev pub IsNoZero : Varnode → Type 0
IsNoZero v = v.place ≡ Const → v.offset ≢ 0

-- A value that is extended gets more bytes.
abbrev pub Extends : Op1 → (out a : ℕ) → Type 0
Extends IntZext out a = out ≢ a
Extends IntSext out a = out ≢ a
Extends _ out a = ⊤

-- A piece has fewer bytes, no shift is by 0, and 0 isn't added.
abbrev pub Changes : Op2 → (out a b : Varnode) → Type 0
Changes IntAdd out a b = IsNoZero a × IsNoZero b
Changes IntLeft out a b = IsNoZero b
Changes IntRight out a b = IsNoZero b
Changes IntSright out a b = IsNoZero b
Changes Subpiece out a b = out.size.bytes ≢ a.size.bytes
Changes _ out a b = ⊤

-- The operation does something that a COPY doesn't, or is one.
abbrev pub IsUseful : Effect → Type 0
IsUseful (Unary f out a) = Extends f out.size.bytes a.size.bytes
IsUseful (Binary f out a b) = Changes f out a b
IsUseful _ = ⊤

-- each operation of a list
abbrev pub AllAreUseful : List Op → Type 0
AllAreUseful ops = All (λ op. IfSome (effect_of op) IsUseful) ops
