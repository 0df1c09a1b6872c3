-- meaning: operations, and lists of them, that are well formed. `sizes` has the number of bytes of an address for each
-- space.
use Rattle.std.specs.Prelude.{◌≡◌, ◌≢◌, ℕ, ◌+◌, ◌^◌, ◌<◌, ◌≤◌, List, Option, Some, length, slice_get, slice_index, IfSome, IsSomeAnd}
use Rattle.std.specs.List.{All}
use Rattle.sl_word.specs.Operations.{TakesSizes1, TakesSizes2}
use Rattle.sl_word.specs.declared.operation.Op2.{Op2}
use Rattle.sl_word.specs.declared.operation.Op2.TheVariants.{Subpiece}
use Rattle.sl_word.specs.declared.word.SpaceId.{SpaceId}
use Rattle.sl_pcode.specs.Effects.{effect_of}
use Rattle.sl_pcode.specs.Targets.{LeadsWithin}
use Rattle.sl_pcode.specs.declared.effect.Effect.{Effect}
use Rattle.sl_pcode.specs.declared.effect.Effect.TheVariants.{Unary, Binary, Load, Store, Branch, CBranch, Call, Indirect, UserOp}
use Rattle.sl_pcode.specs.declared.operation.Op.{Op}
use Rattle.sl_pcode.specs.declared.varnode.Place2.{Place2}
use Rattle.sl_pcode.specs.declared.varnode.Place2.TheVariants.{Const, Unique, In}
use Rattle.sl_pcode.specs.declared.varnode.Varnode.{Varnode}

-- There is such a space, and it has this offset.
abbrev pub IsAddress : List ℕ → SpaceId → ℕ → Type 0
IsAddress sizes space offset = (space.0 < length sizes) × (offset < 256 ^ slice_index sizes space.0)

-- A constant is a number of its size, temporary bytes end at or below 2^32, and in a space the first byte is at an
-- address: what would go past the end goes on at 0.
abbrev pub IsAtPlace : List ℕ → Place2 → ℕ → ℕ → Type 0
IsAtPlace sizes Const offset bytes = offset < 256 ^ bytes
IsAtPlace sizes Unique offset bytes = offset + bytes ≤ 2 ^ 32
IsAtPlace sizes (In space) offset bytes = IsAddress sizes space offset

-- The varnode's place has it.
abbrev pub IsInRange : List ℕ → Varnode → Type 0
IsInRange sizes v = IsAtPlace sizes v.place v.offset v.size.bytes

-- A varnode that may be written is in range, and is no constant.
abbrev pub IsWritable : List ℕ → Varnode → Type 0
IsWritable sizes v = (v.place ≢ Const) × IsInRange sizes v

abbrev pub WritesInRange : List ℕ → Option Varnode → Type 0
WritesInRange sizes out = IfSome out (IsWritable sizes)

-- What is read is in range.
abbrev pub ReadsInRange : List ℕ → List Varnode → Type 0
ReadsInRange sizes inputs = All (IsInRange sizes) inputs

-- The second input of SUBPIECE is a constant.
abbrev pub IsAmount : Op2 → Varnode → Type 0
IsAmount Subpiece b = b.place ≡ Const
IsAmount _ b = Unit {0}

-- A constant is the number of a space.
abbrev pub IsSpace : List ℕ → Varnode → Type 0
IsSpace sizes space = (space.place ≡ Const) × (space.offset < length sizes)

-- A target of BRANCH and CBRANCH is an address, or a constant of four bytes: a distance in the list.
abbrev pub IsTargetAt : Place2 → ℕ → Type 0
IsTargetAt Const bytes = bytes ≡ 4
IsTargetAt Unique bytes = ⊥
IsTargetAt (In space) bytes = Unit {0}

abbrev pub IsTarget : Varnode → Type 0
IsTarget target = IsTargetAt target.place target.size.bytes

-- A target of CALL is an address.
abbrev pub IsDirectAt : Place2 → Type 0
IsDirectAt (In space) = Unit {0}
IsDirectAt Const = ⊥
IsDirectAt Unique = ⊥

abbrev pub IsDirect : Varnode → Type 0
IsDirect target = IsDirectAt target.place

-- The operands have the sizes and the places that the effect takes. Pointers have any size.
abbrev pub IsFormed : List ℕ → Effect → Type 0
IsFormed sizes (Unary f out a) = TakesSizes1 f a.size.bytes out.size.bytes
IsFormed sizes (Binary f out a b) = TakesSizes2 f a.size.bytes b.size.bytes out.size.bytes b.offset × IsAmount f b
IsFormed sizes (Load out space pointer) = IsSpace sizes space
IsFormed sizes (Store space pointer value) = IsSpace sizes space
IsFormed sizes (Branch target) = IsTarget target
IsFormed sizes (CBranch target condition) = IsTarget target × (condition.size.bytes ≡ 1)
IsFormed sizes (Call target) = IsDirect target
IsFormed sizes (Indirect pointer) = Unit {0}
IsFormed sizes (UserOp number) = (number.place ≡ Const) × (number.offset < 2 ^ 32)

-- What an effect writes is writable, and what it reads is in range.
abbrev pub HasOperandsInRange : List ℕ → Effect → Type 0
HasOperandsInRange sizes (Unary f out a) = IsWritable sizes out × IsInRange sizes a
HasOperandsInRange sizes (Binary f out a b) = IsWritable sizes out × IsInRange sizes a × IsInRange sizes b
HasOperandsInRange sizes (Load out space pointer) = IsWritable sizes out × IsInRange sizes pointer
HasOperandsInRange sizes (Store space pointer value) = IsInRange sizes pointer × IsInRange sizes value
HasOperandsInRange sizes (Branch target) = IsInRange sizes target
HasOperandsInRange sizes (CBranch target condition) = IsInRange sizes target × IsInRange sizes condition
HasOperandsInRange sizes (Call target) = Unit {0}
HasOperandsInRange sizes (Indirect pointer) = IsInRange sizes pointer
HasOperandsInRange sizes (UserOp number) = Unit {0}

-- An operation has the operands of its code, of the sizes and at the places that it takes, each in range.
pub record IsWellFormedOp (sizes : List ℕ) (op : Op) : Type 0 where
  pub operands : IsSomeAnd (effect_of op) (IsFormed sizes)
  pub output : WritesInRange sizes op.out
  pub inputs : ReadsInRange sizes op.inputs.items

-- A jump inside a list of `count` operations, from the place `at`, leads to one of its places, or to its end.
abbrev pub StaysWithin : ℕ → ℕ → Effect → Type 0
StaysWithin at count (Branch target) = LeadsWithin at count target
StaysWithin at count (CBranch target condition) = LeadsWithin at count target
StaysWithin at count _ = Unit {0}

abbrev pub StaysInside : ℕ → ℕ → Op → Type 0
StaysInside at count op = IfSome (effect_of op) (StaysWithin at count)

-- The jumps of a list up to a place stay inside it.
abbrev pub StayInsideTo : ℕ → List Op → Type 0
StayInsideTo end ops = (at : ℕ) (op : Op) → at < end → slice_get ops at ≡ Some op → StaysInside at (length ops) op

-- Each operation of the list is well formed, and its jumps stay inside it.
pub record IsWellFormed (sizes : List ℕ) (ops : List Op) : Type 0 where
  pub each : All (IsWellFormedOp sizes) ops
  pub jumps : StayInsideTo (length ops) ops
