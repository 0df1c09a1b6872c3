-- The operands of a well-formed operation's effect.
use Rattle.std.proofs.Common.{◌≡◌, ℕ, List, [], ◌∷◌, Option, Some, None, refl, subst, arith}
use Rattle.std.specs.Prelude.{IsSomeAnd}
use Rattle.sl_pcode.specs.Codes.{kind_of}
use Rattle.sl_pcode.specs.Effects.{effect_by, effect_of}
use Rattle.sl_pcode.specs.WellFormed.{HasOperandsInRange, IsFormed, IsWellFormedOp, ReadsInRange, WritesInRange}
use Rattle.sl_pcode.specs.declared.code.Kind.{Kind}
use Rattle.sl_pcode.specs.declared.code.Kind.TheVariants as kind
use Rattle.sl_pcode.specs.declared.effect.Effect.{Effect}
use Rattle.sl_pcode.specs.declared.effect.Effect.TheVariants.{Unary, Binary, Load, Store, Branch, CBranch, Call, Indirect, UserOp}
use Rattle.sl_pcode.specs.declared.operation.Op.{Op}
use Rattle.sl_pcode.specs.declared.varnode.Varnode.{Varnode}

module _ (sizes : List ℕ) where
  by_kind : (k : Kind) (out : Option Varnode) (inputs : List Varnode) (e : Effect) → effect_by k out inputs ≡ Some e → WritesInRange sizes out → ReadsInRange sizes inputs → HasOperandsInRange sizes e
  by_kind (kind.Unary f) (Some o) (a ∷ []) e is w r =
      let same : Unary f o a ≡ e = cc in subst (HasOperandsInRange sizes) same (w, r 0 a (omega arith))
  by_kind (kind.Binary f) (Some o) (a ∷ b ∷ []) e is w r =
      let same : Binary f o a b ≡ e = cc in subst (HasOperandsInRange sizes) same (w, r 0 a (omega arith), r 1 a (omega arith))
  by_kind kind.Load (Some o) (a ∷ b ∷ []) e is w r =
      let same : Load o a b ≡ e = cc in subst (HasOperandsInRange sizes) same (w, r 1 a (omega arith))
  by_kind kind.Store None (a ∷ b ∷ v ∷ []) e is w r =
      let same : Store a b v ≡ e = cc in subst (HasOperandsInRange sizes) same (r 1 a (omega arith), r 2 a (omega arith))
  by_kind kind.Branch None (a ∷ []) e is w r =
      let same : Branch a ≡ e = cc in subst (HasOperandsInRange sizes) same (r 0 a (omega arith))
  by_kind kind.CBranch None (a ∷ b ∷ []) e is w r =
      let same : CBranch a b ≡ e = cc in subst (HasOperandsInRange sizes) same (r 0 a (omega arith), r 1 a (omega arith))
  by_kind kind.Call None (a ∷ []) e is w r =
      let same : Call a ≡ e = cc in subst (HasOperandsInRange sizes) same tt
  by_kind kind.Indirect None (a ∷ []) e is w r =
      let same : Indirect a ≡ e = cc in subst (HasOperandsInRange sizes) same (r 0 a (omega arith))
  by_kind kind.UserOp None (a ∷ rest) e is w r =
      let same : UserOp a ≡ e = cc in subst (HasOperandsInRange sizes) same tt
  by_kind _ _ _ e is w r = cc

  -- The operands of a well-formed operation are in range.
  pub has_operands_in_range : (op : Op) (e : Effect) → IsWellFormedOp sizes op → effect_of op ≡ Some e → HasOperandsInRange sizes e
  has_operands_in_range op e formed is = by_kind (kind_of op.code) op.out op.inputs.items e is formed.output formed.inputs

  one_formed : (o : Option Effect) → IsSomeAnd o (IsFormed sizes) → (e : Effect) → o ≡ Some e → IsFormed sizes e
  one_formed None h e is = cc
  one_formed (Some x) h e is = let same : x ≡ e = cc in subst (IsFormed sizes) same h

  -- They have the sizes and the places that the effect takes.
  pub is_formed : (op : Op) (e : Effect) → IsWellFormedOp sizes op → effect_of op ≡ Some e → IsFormed sizes e
  is_formed op e formed is = one_formed (effect_of op) formed.operands e is

  some_effect : (o : Option Effect) → IsSomeAnd o (IsFormed sizes) → (e : Effect) × (o ≡ Some e)
  some_effect None h = absurd h
  some_effect (Some e) h = (e, refl)

  -- A well-formed operation has an effect.
  pub has_effect : (op : Op) → IsWellFormedOp sizes op → (e : Effect) × (effect_of op ≡ Some e)
  has_effect op formed = some_effect (effect_of op) formed.operands
