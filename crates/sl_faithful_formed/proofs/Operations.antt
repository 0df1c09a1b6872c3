-- Operations that are well formed at a place of a list, and lists of them.
use Rattle.std.proofs.Common.{◌≡◌, ℕ, zero, suc, ◌+◌, ◌^◌, ◌<◌, ◌≤◌, List, [], ◌∷◌, ◌++◌, length, map, Option, Some, None, refl, sym, subst, arith, ◌∙◌, ◌≢◌, inl, inr}
use Rattle.std.specs.Prelude.{Bool, true, false, if◌then◌else◌, IfSome, IsSomeAnd, slice_get}
use Rattle.std.specs.List.{All}
use Rattle.std.proofs.lemmas.List.Elements.{All-cons, All-nil}
use Rattle.sl_faithful_code.specs.Bits.{moved, taken}
use Rattle.sl_faithful_code.specs.Operations.{Operation, amount, binary, by_one, by_two, call_user, effect, exit, exit_if, in_space, load_from, operation_of, store_to, temporary, unary}
use Rattle.sl_faithful_code.proofs.Operators.{binary_is, by_one_effect, by_two_effect, first_size, kept_size, second_is, unary_is}
use Rattle.sl_section_equations.specs.Equations.{size_at}
use Rattle.sl_pcode.specs.Effects.{effect_of}
use Rattle.sl_pcode.specs.WellFormed.{IsAmount, IsDirect, IsFormed, IsInRange, IsTarget, IsWellFormed, IsWellFormedOp, IsWritable, ReadsInRange, StaysInside, StaysWithin, WritesInRange}
use Rattle.sl_pcode.specs.Targets.{LeadsWithin}
use Rattle.sl_pcode.specs.declared.code.Code.TheVariants as code
use Rattle.sl_pcode.specs.declared.effect.Effect.{Effect}
use Rattle.sl_pcode.specs.declared.operation.Op.{Op}
use Rattle.sl_pcode.specs.declared.varnode.Place2.TheVariants.{Const, Unique, In}
use Rattle.sl_pcode.specs.declared.varnode.Varnode.{Varnode}
use Rattle.sl_word.specs.Operations.{TakesSizes1, TakesSizes2}
use Rattle.sl_word.specs.declared.operation.Op1.{Op1}
use Rattle.sl_word.specs.declared.operation.Op1.TheVariants as one
use Rattle.sl_word.specs.declared.operation.Op2.{Op2}
use Rattle.sl_word.specs.declared.operation.Op2.TheVariants as two
use Rattle.sl_word.specs.declared.word.Size.{Size}
use Rattle.sl_word.specs.declared.word.SpaceId.{SpaceId}

pub four : (size_at 4).bytes ≡ 4
unfolding size_at
four = refl

unique_written : Unique ≢ Const
unique_written e = cc

space_written : (space : SpaceId) → In space ≢ Const
space_written space e = cc

module _ (sizes : List ℕ) where
  -- ---- varnodes

  pub temporary_writable : (offset : ℕ) (n : Size) → offset + n.bytes ≤ 4294967296 → IsWritable sizes (temporary offset n)
  temporary_writable offset n le = (unique_written, le)

  pub space_writable : (space offset : ℕ) (n : Size) → IsInRange sizes (in_space space offset n) → IsWritable sizes (in_space space offset n)
  space_writable space offset n is = (space_written (record { 0 = space }), is)

  pub moved_fits : (c : Bool) (new at : Varnode) → IsInRange sizes new → IsInRange sizes at → IsInRange sizes (moved c new at)
  moved_fits true new at h k = h
  moved_fits false new at h k = k

  pub amount_fits : (v : ℕ) → v < 4294967296 → IsInRange sizes (amount v)
  amount_fits v lt = subst (λ k. v < 256 ^ k) (sym four) lt

  -- ---- operations

  -- The operation is well formed at a place of a list of `count`, and a jump from there stays inside.
  pub record Stands (at count : ℕ) (o : Operation) : Type 0 where
    pub operands : IsSomeAnd (effect o) (λ e. IsFormed sizes e × StaysWithin at count e)
    pub output : WritesInRange sizes o.out
    pub inputs : ReadsInRange sizes o.inputs

  -- wherever it stands
  abbrev pub Straight : Operation → Type 0
  Straight o = (at count : ℕ) → Stands at count o

  one_input : (a : Varnode) → IsInRange sizes a → ReadsInRange sizes (a ∷ [])
  one_input a h = All-cons (IsInRange sizes) a [] h (All-nil (IsInRange sizes))

  two_inputs : (a b : Varnode) → IsInRange sizes a → IsInRange sizes b → ReadsInRange sizes (a ∷ b ∷ [])
  two_inputs a b h k = All-cons (IsInRange sizes) a (b ∷ []) h (one_input b k)

  three_inputs : (a b c : Varnode) → IsInRange sizes a → IsInRange sizes b → IsInRange sizes c → ReadsInRange sizes (a ∷ b ∷ c ∷ [])
  three_inputs a b c h k l = All-cons (IsInRange sizes) a (b ∷ c ∷ []) h (two_inputs b c k l)

  by_one_stands : (f : Op1) (out a : Varnode) → TakesSizes1 f a.size.bytes out.size.bytes → IsWritable sizes out → IsInRange sizes a → Straight (by_one f out a)
  by_one_stands f out a takes writes reads at count = record {
    operands = subst (λ x. IsSomeAnd x (λ e. IsFormed sizes e × StaysWithin at count e)) (sym (by_one_effect f out a)) (takes, tt);
    output = writes;
    inputs = one_input a reads;
  }

  by_two_stands : (f : Op2) (out a b : Varnode) → TakesSizes2 f a.size.bytes b.size.bytes out.size.bytes b.offset → IsAmount f b → IsWritable sizes out → IsInRange sizes a → IsInRange sizes b → Straight (by_two f out a b)
  by_two_stands f out a b takes piece writes reads reads' at count = record {
    operands = subst (λ x. IsSomeAnd x (λ e. IsFormed sizes e × StaysWithin at count e)) (sym (by_two_effect f out a b)) ((takes, piece), tt);
    output = writes;
    inputs = two_inputs a b reads reads';
  }

  pub unary_stands : (f : Op1) (out a : Varnode) → TakesSizes1 f a.size.bytes out.size.bytes → IsWritable sizes out → IsInRange sizes a → Straight (unary f out a)
  unary_stands f out a takes writes reads =
      elim (unary_is f out a) [
        | inl k ↦ subst Straight (sym k.1) (by_one_stands one.Copy out a (kept_size f out.size.bytes a.size.bytes k.0) writes reads)
        | inr e ↦ subst Straight (sym e.1) (by_one_stands f out a takes writes reads)
      ]

  pub binary_stands : (f : Op2) (out a b : Varnode) → TakesSizes2 f a.size.bytes b.size.bytes out.size.bytes b.offset → IsAmount f b → IsWritable sizes out → IsInRange sizes a → IsInRange sizes b → Straight (binary f out a b)
  binary_stands f out a b takes piece writes reads reads' =
      elim (binary_is f out a b) [
        | inl k ↦ subst Straight (sym k.1) (by_one_stands one.Copy out a (first_size f out.size.bytes a.size.bytes b k.0) writes reads)
        | inr (inl k) ↦
            let sum : TakesSizes2 two.IntAdd a.size.bytes b.size.bytes out.size.bytes b.offset =
            subst (λ o. TakesSizes2 o a.size.bytes b.size.bytes out.size.bytes b.offset) (second_is f out.size.bytes a k.0).0 takes in
            subst Straight (sym k.1) (by_one_stands one.Copy out b (sum.1 ∙ sym sum.0) writes reads')
        | inr (inr e) ↦ subst Straight (sym e.2) (by_two_stands f out a b takes piece writes reads reads')
      ]

  module _ (few : length sizes ≤ 4294967296) where
    pub load_stands : (out : Varnode) (space : ℕ) (pointer : Varnode) → space < length sizes → IsWritable sizes out → IsInRange sizes pointer → Straight (load_from out space pointer)
    load_stands out space pointer there writes reads at count = record {
      operands = ((refl, there), tt);
      output = writes;
      inputs = two_inputs (amount space) pointer (amount_fits space (omega arith)) reads;
    }

    pub store_stands : (space : ℕ) (pointer v : Varnode) → space < length sizes → IsInRange sizes pointer → IsInRange sizes v → Straight (store_to space pointer v)
    store_stands space pointer v there reads reads' at count = record {
      operands = ((refl, there), tt);
      output = tt;
      inputs = three_inputs (amount space) pointer v (amount_fits space (omega arith)) reads reads';
    }

  pub call_user_stands : (op : ℕ) (arguments : List Varnode) → op < 4294967296 → ReadsInRange sizes arguments → Straight (call_user op arguments)
  call_user_stands op arguments lt reads at count = record {
    operands = ((refl, lt), tt);
    output = tt;
    inputs = All-cons (IsInRange sizes) (amount op) arguments (amount_fits op lt) reads;
  }

  pub branch_stands : (at count : ℕ) (target : Varnode) → IsTarget target → LeadsWithin at count target → IsInRange sizes target → Stands at count (exit code.Branch target)
  branch_stands at count target is within reads = record { operands = (is, within); output = tt; inputs = one_input target reads }

  pub branch_if_stands : (at count : ℕ) (target condition : Varnode) → IsTarget target → LeadsWithin at count target → condition.size.bytes ≡ 1 → IsInRange sizes target → IsInRange sizes condition → Stands at count (exit_if target condition)
  branch_if_stands at count target condition is within byte reads reads' = record { operands = ((is, byte), within); output = tt; inputs = two_inputs target condition reads reads' }

  pub call_stands : (target : Varnode) → IsDirect target → IsInRange sizes target → Straight (exit code.Call target)
  call_stands target is reads at count = record { operands = (is, tt); output = tt; inputs = one_input target reads }

  pub branch_ind_stands : (a : Varnode) → IsInRange sizes a → Straight (exit code.BranchInd a)
  branch_ind_stands a reads at count = record { operands = (tt, tt); output = tt; inputs = one_input a reads }

  pub call_ind_stands : (a : Varnode) → IsInRange sizes a → Straight (exit code.CallInd a)
  call_ind_stands a reads at count = record { operands = (tt, tt); output = tt; inputs = one_input a reads }

  pub return_stands : (a : Varnode) → IsInRange sizes a → Straight (exit code.Return a)
  return_stands a reads at count = record { operands = (tt, tt); output = tt; inputs = one_input a reads }

  -- ---- lists

  -- each stands wherever it is
  abbrev pub AllStraight : List Operation → Type 0
  AllStraight [] = Unit {0}
  AllStraight (o ∷ os) = Straight o × AllStraight os

  -- one of two lists, and an operation that may be left out
  pub straight_choice : (c : Bool) (a b : List Operation) → (c ≡ true → AllStraight a) → (c ≡ false → AllStraight b) → AllStraight (if c then a else b)
  straight_choice true a b h k = h refl
  straight_choice false a b h k = k refl

  pub straight_taken : (c : Bool) (o : Operation) → (c ≡ true → Straight o) → AllStraight (taken c o)
  straight_taken true o h = (h refl, tt)
  straight_taken false o h = tt

  pub straight_append : (a b : List Operation) → AllStraight a → AllStraight b → AllStraight (a ++ b)
  straight_append [] b h k = k
  straight_append (o ∷ a) b h k = (h.0, straight_append a b h.1 k)

  -- they stand from a place on
  abbrev pub Stand : (at count : ℕ) → List Operation → Type 0
  Stand at count [] = Unit {0}
  Stand at count (o ∷ os) = Stands at count o × Stand (at + 1) count os

  pub stand_straight : (at count : ℕ) (os : List Operation) → AllStraight os → Stand at count os
  stand_straight at count [] h = tt
  stand_straight at count (o ∷ os) h = (h.0 at count, stand_straight (at + 1) count os h.1)

  pub stand_at : (at at' count : ℕ) (os : List Operation) → at ≡ at' → Stand at count os → Stand at' count os
  stand_at at at' count os e h = subst (λ n. Stand n count os) e h

  pub stand_append : (at count : ℕ) (a b : List Operation) → Stand at count a → Stand (at + length a) count b → Stand at count (a ++ b)
  stand_append at count [] b h k = stand_at (at + 0) at count b (omega arith) k
  stand_append at count (o ∷ a) b h k =
      (h.0, stand_append (at + 1) count a b h.1 (stand_at (at + suc (length a)) (at + 1 + length a) count b (omega arith) k))

  -- ---- the list of the program

  some_first : (o : Option Effect) (P Q : Effect → Type 0) → IsSomeAnd o (λ e. P e × Q e) → IsSomeAnd o P
  some_first None P Q h = h
  some_first (Some e) P Q h = h.0

  some_second : (o : Option Effect) (P Q : Effect → Type 0) → IsSomeAnd o (λ e. P e × Q e) → IfSome o Q
  some_second None P Q h = tt
  some_second (Some e) P Q h = h.1

  well_formed_op : (at count : ℕ) (op : Op) → Stands at count (operation_of op) → IsWellFormedOp sizes op
  well_formed_op at count op h = record {
    operands = some_first (effect_of op) (IsFormed sizes) (StaysWithin at count) h.operands;
    output = h.output;
    inputs = h.inputs;
  }

  each_formed : (at count : ℕ) (ops : List Op) → Stand at count (map operation_of ops) → All (IsWellFormedOp sizes) ops
  each_formed at count [] h = All-nil (IsWellFormedOp sizes)
  each_formed at count (op ∷ ops) h =
      All-cons (IsWellFormedOp sizes) op ops (well_formed_op at count op h.0) (each_formed (at + 1) count ops h.1)

  stays : (from count : ℕ) (ops : List Op) → Stand from count (map operation_of ops) → (at : ℕ) (op : Op) → slice_get ops at ≡ Some op → StaysInside (from + at) count op
  stays from count [] h at op is = absurd (let no : ⊥ = cc in no)
  stays from count (o ∷ ops) h zero op is =
      let same : o ≡ op = cc in
      let e : from ≡ from + 0 = omega arith in
      subst (λ n. StaysInside n count op) e (subst (StaysInside from count) same (some_second (effect_of o) (IsFormed sizes) (StaysWithin from count) h.0.operands))
  stays from count (o ∷ ops) h (suc at) op is =
      let e : from + 1 + at ≡ from + suc at = omega arith in
      subst (λ n. StaysInside n count op) e (stays (from + 1) count ops h.1 at op is)

  pub well_formed : (ops : List Op) → Stand 0 (length ops) (map operation_of ops) → IsWellFormed sizes ops
  well_formed ops h = record {
    each = each_formed 0 (length ops) ops h;
    jumps = λ at op lt is. let e : 0 + at ≡ at = omega arith in subst (λ n. StaysInside n (length ops) op) e (stays 0 (length ops) ops h at op is);
  }
