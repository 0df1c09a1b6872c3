-- What an operation does, by its operands.
use Rattle.std.proofs.Common.{◌≡◌, ℕ, List, [], ◌∷◌, Option, Some, None, ap, ◌∙◌}
use Rattle.sl_word.specs.Memories.{Memory}
use Rattle.sl_word.specs.declared.operation.Op1.{Op1}
use Rattle.sl_word.specs.declared.operation.Op2.{Op2}
use Rattle.sl_word.specs.declared.word.Endian.{Endian}
use Rattle.sl_pcode.specs.Codes.{kind_of}
use Rattle.sl_pcode.specs.Effects.{effect_by, effect_of}
use Rattle.sl_pcode.specs.Machine.{Temporaries as Bytes, op_does}
use Rattle.sl_pcode.specs.declared.code.Kind.{Kind}
use Rattle.sl_pcode.specs.declared.code.Kind.TheVariants as kind
use Rattle.sl_pcode.specs.declared.effect.Effect.{Effect}
use Rattle.sl_pcode.specs.declared.effect.Effect.TheVariants.{Unary, Binary, Load, Store, CBranch}
use Rattle.sl_pcode.specs.declared.operation.Op.{Op}
use Rattle.sl_pcode.specs.declared.varnode.Varnode.{Varnode}
use Rattle.sl_emu.specs.Steps.{Does, OpDoes}
use Rattle.sl_emu.specs.declared.step.Then.{Then}

-- An operation does what its effect does.
pub op_does_of : (endian : Endian) (sizes : List ℕ) (op : Op) (e : Effect) (m : Memory) (t : Bytes) (m' : Memory) (t' : Bytes) (then : Then)
    → effect_of op ≡ Some e → Does endian sizes e m t m' t' then → OpDoes endian sizes op m t m' t' then
op_does_of endian sizes op e m t m' t' then is d = record {
  runs = λ next jump leave fault. ap (λ (o : Option Effect). op_does endian sizes o m t next jump leave fault) is ∙ d.runs next jump leave fault;
  steady = d.steady;
}

-- the effect of a kind with these operands
by_operands : (op : Op) (k : Kind) (out : Option Varnode) (inputs : List Varnode) → kind_of op.code ≡ k → op.out ≡ out → op.inputs.items ≡ inputs
    → effect_of op ≡ effect_by k out inputs
by_operands op k out inputs code is are =
    ap (λ (x : Kind). effect_by x op.out op.inputs.items) code
    ∙ ap (λ (x : Option Varnode). effect_by k x op.inputs.items) is
    ∙ ap (λ (xs : List Varnode). effect_by k out xs) are

pub is_unary : (op : Op) (f : Op1) (out a : Varnode) → kind_of op.code ≡ kind.Unary f → op.out ≡ Some out → op.inputs.items ≡ a ∷ [] → effect_of op ≡ Some (Unary f out a)
is_unary op f out a code is are = by_operands op (kind.Unary f) (Some out) (a ∷ []) code is are

pub is_binary : (op : Op) (f : Op2) (out a b : Varnode) → kind_of op.code ≡ kind.Binary f → op.out ≡ Some out → op.inputs.items ≡ a ∷ b ∷ []
    → effect_of op ≡ Some (Binary f out a b)
is_binary op f out a b code is are = by_operands op (kind.Binary f) (Some out) (a ∷ b ∷ []) code is are

pub is_load : (op : Op) (out space pointer : Varnode) → kind_of op.code ≡ kind.Load → op.out ≡ Some out → op.inputs.items ≡ space ∷ pointer ∷ []
    → effect_of op ≡ Some (Load out space pointer)
is_load op out space pointer code is are = by_operands op kind.Load (Some out) (space ∷ pointer ∷ []) code is are

pub is_store : (op : Op) (space pointer value : Varnode) → kind_of op.code ≡ kind.Store → op.out ≡ None → op.inputs.items ≡ space ∷ pointer ∷ value ∷ []
    → effect_of op ≡ Some (Store space pointer value)
is_store op space pointer value code is are = by_operands op kind.Store None (space ∷ pointer ∷ value ∷ []) code is are

pub is_cbranch : (op : Op) (target condition : Varnode) → kind_of op.code ≡ kind.CBranch → op.out ≡ None → op.inputs.items ≡ target ∷ condition ∷ []
    → effect_of op ≡ Some (CBranch target condition)
is_cbranch op target condition code is are = by_operands op kind.CBranch None (target ∷ condition ∷ []) code is are
