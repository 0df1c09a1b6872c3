-- Operations that lead to the default space alone, call user operations below their number, and do
-- something.
use Rattle.std.proofs.Common.{◌≡◌, ◌≢◌, ℕ, ◌+◌, ◌≤◌, Bool, true, false, List, [], ◌∷◌, ◌++◌, map, Option, Some, None}
use Rattle.std.proofs.Common.{refl, sym, ap, ◌∙◌, subst, inl, inr, arith}
use Rattle.std.specs.Prelude.{◌&&◌, ◌==◌, if◌then◌else◌, IfSome, IsSomeAnd}
use Rattle.std.specs.List.{All}
use Rattle.std.proofs.lemmas.Bool.Decides.{nat_tests}
use Rattle.std.proofs.lemmas.List.Elements.{All-cons, All-head, All-nil, All-tail}
use Rattle.sl_faithful_code.specs.Bits.{taken}
use Rattle.sl_faithful_code.specs.Operations.{Operation, binary, by_one, effect, is_zero}
use Rattle.sl_faithful_code.specs.Operations.{is_zero_at, keeps, keeps_first, keeps_second}
use Rattle.sl_faithful_code.specs.Operations.{operation_of, unary}
use Rattle.sl_faithful_code.specs.Terms.{code_before, copied, two_operands}
use Rattle.sl_faithful_code.proofs.Operators.{binary_is, by_one_effect, by_two_effect}
use Rattle.sl_faithful_code.proofs.Operators.{unary_is}
use Rattle.sl_faithful_lists.specs.Targets.{AllCallUserOps, AllLeadToDefault, CallsUserOp, LeadsToDefault}
use Rattle.sl_faithful_lists.specs.Useful.{AllAreUseful, IsNoZero, IsUseful}
use Rattle.sl_pcode.specs.Effects.{effect_of}
use Rattle.sl_pcode.specs.WellFormed.{IsFormed, IsWellFormedOp}
use Rattle.sl_pcode.specs.declared.effect.Effect.{Effect}
use Rattle.sl_pcode.specs.declared.effect.Effect.TheVariants.{Unary, Binary, Load, Store, Branch, CBranch, Call, Indirect, UserOp}
use Rattle.sl_pcode.specs.declared.operation.Op.{Op}
use Rattle.sl_pcode.specs.declared.varnode.Place2.TheVariants.{Const}
use Rattle.sl_pcode.specs.declared.varnode.Varnode.{Varnode}
use Rattle.sl_section_flat.specs.declared.term.Order.{Order}
use Rattle.sl_section_flat.specs.declared.term.Order.TheVariants.{AsWritten, Exchanged}
use Rattle.sl_word.specs.declared.operation.Op1.{Op1}
use Rattle.sl_word.specs.declared.operation.Op1.TheVariants as one
use Rattle.sl_word.specs.declared.operation.Op1.TheVariants.{Copy}
use Rattle.sl_word.specs.declared.operation.Op2.{Op2}
use Rattle.sl_word.specs.declared.operation.Op2.TheVariants as two

some_part : (o : Option Effect) (P Q : Effect → Type 0) → ((e : Effect) → P e → Q e) → IfSome o P
    → IfSome o Q
some_part None P Q part h = tt
some_part (Some e) P Q part h = part e h

some_both : (o : Option Effect) (P Q R : Effect → Type 0) → ((e : Effect) → P e → Q e → R e)
    → IfSome o P → IsSomeAnd o Q → IfSome o R
some_both None P Q R both h k = tt
some_both (Some e) P Q R both h k = both e h k

-- The operation isn't one in whose place a COPY stands.
abbrev pub IsKept : Effect → Type 0
IsKept (Unary f out a) = keeps f out.size.bytes a.size.bytes ≡ false
IsKept (Binary f out a b) = (keeps_first f out.size.bytes a.size.bytes b ≡ false)
    × (keeps_second f out.size.bytes a ≡ false)
IsKept _ = Unit {0}

module _ (default userops : ℕ) where
  -- what the operation does leads to the default space, or calls such a user operation, and does
  -- something
  abbrev pub LeadsBy : Effect → Type 0
  LeadsBy e = LeadsToDefault default e × CallsUserOp userops e × IsKept e

  abbrev pub Leads : Operation → Type 0
  Leads o = IfSome (effect o) LeadsBy

  -- those of one operand and of two lead nowhere
  by_one_leads : (f : Op1) (out a : Varnode) → keeps f out.size.bytes a.size.bytes ≡ false
      → Leads (by_one f out a)
  by_one_leads f out a kept =
      subst (λ x. IfSome x LeadsBy) (sym (by_one_effect f out a)) (tt, tt, kept)

  pub unary_leads : (f : Op1) (out a : Varnode) → Leads (unary f out a)
  unary_leads f out a =
      elim (unary_is f out a) [
        | inl k ↦ subst Leads (sym k.1) (by_one_leads Copy out a refl)
        | inr e ↦ subst Leads (sym e.1) (by_one_leads f out a e.0)
      ]

  pub binary_leads : (f : Op2) (out a b : Varnode) → Leads (binary f out a b)
  binary_leads f out a b =
      elim (binary_is f out a b) [
        | inl k ↦ subst Leads (sym k.1) (by_one_leads Copy out a refl)
        | inr (inl k) ↦ subst Leads (sym k.1) (by_one_leads Copy out b refl)
        | inr (inr e) ↦
            subst Leads (sym e.2)
            (subst (λ x. IfSome x LeadsBy) (sym (by_two_effect f out a b)) (tt, tt, (e.0, e.1)))
      ]

  pub ordered_leads : (f : Op2) (order : Order) (out a b : Varnode)
      → Leads (two_operands f order out a b)
  ordered_leads f AsWritten out a b = binary_leads f out a b
  ordered_leads f Exchanged out a b = binary_leads f out b a

  -- ---- lists

  abbrev pub AllLead : List Operation → Type 0
  AllLead [] = Unit {0}
  AllLead (o ∷ os) = Leads o × AllLead os

  pub lead_append : (a b : List Operation) → AllLead a → AllLead b → AllLead (a ++ b)
  lead_append [] b h k = k
  lead_append (o ∷ a) b h k = (h.0, lead_append a b h.1 k)

  -- one of two lists, and an operation that may be left out
  pub lead_choice : (c : Bool) (a b : List Operation) → AllLead a → AllLead b
      → AllLead (if c then a else b)
  lead_choice true a b h k = h
  lead_choice false a b h k = k

  pub lead_taken : (c : Bool) (o : Operation) → Leads o → AllLead (taken c o)
  lead_taken true o h = (h, tt)
  lead_taken false o h = tt

  pub lead_then : (a : List Operation) (o : Operation) → AllLead a → Leads o
      → AllLead (a ++ o ∷ [])
  lead_then a o h k = lead_append a (o ∷ []) h (k, tt)

  -- what is put into a temporary, where it is no varnode already
  pub lead_before : (leaf : Option Varnode) (os : List Operation) → AllLead os
      → AllLead (code_before leaf os)
  lead_before None os h = h
  lead_before (Some v) os h = tt

  pub lead_copied : (leaf : Option Varnode) (out : Varnode) (os : List Operation) → AllLead os
      → AllLead (copied leaf out os)
  lead_copied None out os h = h
  lead_copied (Some v) out os h = (unary_leads Copy out v, tt)

  -- ---- the list of the program

  pub leads_to_default : (ops : List Op) → AllLead (map operation_of ops)
      → AllLeadToDefault default ops
  leads_to_default [] h = All-nil (λ op. IfSome (effect_of op) (LeadsToDefault default))
  leads_to_default (op ∷ ops) h =
      All-cons (λ op. IfSome (effect_of op) (LeadsToDefault default)) op ops
      (some_part (effect_of op) LeadsBy (LeadsToDefault default) (λ e k. k.0) h.0)
      (leads_to_default ops h.1)

  pub calls_user_ops : (ops : List Op) → AllLead (map operation_of ops)
      → AllCallUserOps userops ops
  calls_user_ops [] h = All-nil (λ op. IfSome (effect_of op) (CallsUserOp userops))
  calls_user_ops (op ∷ ops) h =
      All-cons (λ op. IfSome (effect_of op) (CallsUserOp userops)) op ops
      (some_part (effect_of op) LeadsBy (CallsUserOp userops) (λ e k. k.1) h.0)
      (calls_user_ops ops h.1)

-- ---- operations that do something

other_size : (out a : ℕ) → (out == a) ≡ false → out ≢ a
other_size out a e = grind (arith, nat_tests)

-- where 0 would be the value of the other operand alone
no_zero : (v : Varnode) (out a : ℕ) → (is_zero v && (out == a)) ≡ false → out ≡ a → IsNoZero v
no_zero v out a kept same there zero =
    let number : (v.offset == 0) ≡ true = grind (arith, nat_tests) in
    let is : is_zero v ≡ true = ap (λ p. is_zero_at p v.offset) there ∙ number in
    let size : (out == a) ≡ true = grind (arith, nat_tests) in
    absurd (let no : ⊥ = cc in no)

no_whole : (b : Varnode) (out a : ℕ) → (is_zero b && (out == a)) ≡ false → b.place ≡ Const
    → out + b.offset ≤ a → out ≢ a
no_whole b out a kept there within same = no_zero b out a kept same there (omega (arith, within))

module _ (sizes : List ℕ) where
  useful_by : (e : Effect) → IsKept e → IsFormed sizes e → IsUseful e
  useful_by (Unary one.IntZext out a) kept formed = other_size out.size.bytes a.size.bytes kept
  useful_by (Unary one.IntSext out a) kept formed = other_size out.size.bytes a.size.bytes kept
  useful_by (Unary one.Copy out a) kept formed = tt
  useful_by (Unary one.IntNegate out a) kept formed = tt
  useful_by (Unary one.Int2Comp out a) kept formed = tt
  useful_by (Unary one.BoolNegate out a) kept formed = tt
  useful_by (Unary one.PopCount out a) kept formed = tt
  useful_by (Unary one.LzCount out a) kept formed = tt
  useful_by (Binary two.IntAdd out a b) kept formed = (
    no_zero a out.size.bytes a.size.bytes kept.1 formed.0.1,
    no_zero b out.size.bytes a.size.bytes kept.0 formed.0.1,
  )
  useful_by (Binary two.IntLeft out a b) kept formed =
      no_zero b out.size.bytes a.size.bytes kept.0 formed.0
  useful_by (Binary two.IntRight out a b) kept formed =
      no_zero b out.size.bytes a.size.bytes kept.0 formed.0
  useful_by (Binary two.IntSright out a b) kept formed =
      no_zero b out.size.bytes a.size.bytes kept.0 formed.0
  useful_by (Binary two.Subpiece out a b) kept formed =
      no_whole b out.size.bytes a.size.bytes kept.0 formed.1 formed.0
  useful_by (Binary two.IntSub out a b) kept formed = tt
  useful_by (Binary two.IntMult out a b) kept formed = tt
  useful_by (Binary two.IntDiv out a b) kept formed = tt
  useful_by (Binary two.IntRem out a b) kept formed = tt
  useful_by (Binary two.IntSdiv out a b) kept formed = tt
  useful_by (Binary two.IntSrem out a b) kept formed = tt
  useful_by (Binary two.IntAnd out a b) kept formed = tt
  useful_by (Binary two.IntOr out a b) kept formed = tt
  useful_by (Binary two.IntXor out a b) kept formed = tt
  useful_by (Binary two.IntEqual out a b) kept formed = tt
  useful_by (Binary two.IntNotEqual out a b) kept formed = tt
  useful_by (Binary two.IntLess out a b) kept formed = tt
  useful_by (Binary two.IntLessEqual out a b) kept formed = tt
  useful_by (Binary two.IntSless out a b) kept formed = tt
  useful_by (Binary two.IntSlessEqual out a b) kept formed = tt
  useful_by (Binary two.IntCarry out a b) kept formed = tt
  useful_by (Binary two.IntScarry out a b) kept formed = tt
  useful_by (Binary two.IntSborrow out a b) kept formed = tt
  useful_by (Binary two.BoolAnd out a b) kept formed = tt
  useful_by (Binary two.BoolOr out a b) kept formed = tt
  useful_by (Binary two.BoolXor out a b) kept formed = tt
  useful_by (Load out space pointer) kept formed = tt
  useful_by (Store space pointer v) kept formed = tt
  useful_by (Branch target) kept formed = tt
  useful_by (CBranch target condition) kept formed = tt
  useful_by (Call target) kept formed = tt
  useful_by (Indirect pointer) kept formed = tt
  useful_by (UserOp number) kept formed = tt

  pub are_useful : (default userops : ℕ) (ops : List Op)
      → AllLead default userops (map operation_of ops) → All (IsWellFormedOp sizes) ops
      → AllAreUseful ops
  are_useful default userops [] h well = All-nil (λ op. IfSome (effect_of op) IsUseful)
  are_useful default userops (op ∷ ops) h well =
      let here : IsWellFormedOp sizes op = All-head (IsWellFormedOp sizes) op ops well in
      All-cons (λ op. IfSome (effect_of op) IsUseful) op ops
      (some_both (effect_of op) (LeadsBy default userops) (IsFormed sizes) IsUseful
      (λ e k formed. useful_by e k.2 formed) h.0 here.operands)
      (are_useful default userops ops h.1 (All-tail (IsWellFormedOp sizes) op ops well))
