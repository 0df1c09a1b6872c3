-- In a list that is well formed, whatever an operation reads or writes is in range.
use Rattle.std.proofs.Common.{◌≡◌, ℕ, ◌<◌, ◌⊎◌, List, length, Some, subst, inl, inr}
use Rattle.std.specs.Prelude.{Contains}
use Rattle.std.proofs.lemmas.List.Elements.{All-contains}
use Rattle.sl_word.specs.declared.word.SpaceId.{SpaceId}
use Rattle.sl_pcode.specs.declared.operation.Op.{Op}
use Rattle.sl_pcode.specs.declared.varnode.Place2.TheVariants.{In}
use Rattle.sl_pcode.specs.declared.varnode.Varnode.{Varnode}
use Rattle.sl_pcode.specs.WellFormed.{IsAtPlace, IsInRange, WritesInRange, IsWellFormed, IsWellFormedOp}

-- The operation writes the varnode, or reads it.
abbrev pub Uses : Op → Varnode → Type 0
Uses op v = (op.out ≡ Some v) ⊎ Contains op.inputs.items v

-- Addresses have so many bytes in each space.
module _ (sizes : List ℕ) where
  pub used_in_range : (op : Op) (v : Varnode) → IsWellFormedOp sizes op → Uses op v → IsInRange sizes v
  used_in_range op v formed (inl writes) =
      let output : WritesInRange sizes (Some v) = subst (WritesInRange sizes) writes formed.output in
      output.1
  used_in_range op v formed (inr reads) = All-contains (IsInRange sizes) op.inputs.items v formed.inputs reads

  pub all_in_range : (ops : List Op) (op : Op) (v : Varnode) → IsWellFormed sizes ops → Contains ops op → Uses op v → IsInRange sizes v
  all_in_range ops op v formed among = used_in_range op v (All-contains (IsWellFormedOp sizes) ops op formed.each among)

  pub space_defined : (v : Varnode) (space : SpaceId) → IsInRange sizes v → v.place ≡ In space → space.0 < length sizes
  space_defined v space in_range lies =
      let address : IsAtPlace sizes (In space) v.offset v.size.bytes =
      subst (λ place. IsAtPlace sizes place v.offset v.size.bytes) lies in_range in
      address.0
