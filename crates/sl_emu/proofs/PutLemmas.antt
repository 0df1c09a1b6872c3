-- What follows a number that is put into a varnode.
use Rattle.std.proofs.Common.{◌≡◌, ℕ, ◌+◌, ◌-◌, ◌%◌, ◌^◌, ◌<◌, ◌≤◌, List, false, length, refl, sym, ap, subst, ◌∙◌, arith}
use Rattle.std.specs.Prelude.{if◌then◌else◌, ◌&&◌, ◌==◌, nat_lt}
use Rattle.std.proofs.Math.Nat.{mod-add-mod}
use Rattle.sl_word.specs.Bytes.{KeepsOthers, PutsBytes, address_size, address_sizes, byte_at, endian_of}
use Rattle.sl_word.specs.Layout.{byte_of}
use Rattle.sl_word.specs.Memories.{Memory, loaded, stored}
use Rattle.sl_word.specs.Operations.{IsDivision}
use Rattle.sl_word.specs.declared.operation.Op2.{Op2}
use Rattle.sl_word.specs.declared.operation.Op2.TheVariants.{IntAdd, IntSub, IntMult, IntDiv, IntRem, IntSdiv, IntSrem, IntLeft, IntRight, IntSright, IntAnd, IntOr, IntXor, IntEqual, IntNotEqual, IntLess, IntLessEqual, IntSless, IntSlessEqual, IntCarry, IntScarry, IntSborrow, BoolAnd, BoolOr, BoolXor, Subpiece}
use Rattle.sl_word.specs.declared.state.State.{State}
use Rattle.sl_word.specs.declared.word.SpaceId.{SpaceId}
use Rattle.sl_word.proofs.Powers.{low-wrap}
use Rattle.sl_word.proofs.Written.{address_size-range, memory-stored}
use Rattle.sl_pcode.specs.Machine.{Run, Temporaries as Bytes, has_no_value, put_at}
use Rattle.sl_pcode.specs.WellFormed.{IsAtPlace, IsTargetAt}
use Rattle.sl_pcode.specs.declared.varnode.Place2.{Place2}
use Rattle.sl_pcode.specs.declared.varnode.Place2.TheVariants.{Const, Unique, In}
use Rattle.sl_emu.specs.Steps.{IsNear}
use Rattle.sl_emu.proofs.TemporaryLemmas.{number_along}

-- a state after a write has the memory that follows
pub stored_after : (old new : State) (space offset count number : ℕ) → count ≤ 16 → space < length (address_sizes old) → PutsBytes old new space offset count (byte_of (endian_of old) count number) → KeepsOthers old new space
    → byte_at new ≡ stored (endian_of old) (address_sizes old) (byte_at old) space offset count number
stored_after old new space offset count number small inside puts keeps =
    memory-stored old new space offset count number small (address_size-range old space inside).0 puts keeps

-- a varnode in a space is written
pub put_in : (old new : State) (place : Place2) (space : SpaceId) (offset count size number : ℕ) (t : Bytes) → place ≡ In space → count ≡ size → count ≤ 16 → IsAtPlace (address_sizes old) place offset size
    → PutsBytes old new space.0 offset count (byte_of (endian_of old) count number) → KeepsOthers old new space.0
    → (next : Memory → Bytes → Run) → put_at (endian_of old) (address_sizes old) place offset size number (byte_at old) t next ≡ next (byte_at new) t
put_in old new place space offset count size number t is e small range puts keeps next =
    let address = subst (λ (p : Place2). IsAtPlace (address_sizes old) p offset size) is range in
    ap (λ (p : Place2). put_at (endian_of old) (address_sizes old) p offset size number (byte_at old) t next) is
    ∙ ap (λ n. next (stored (endian_of old) (address_sizes old) (byte_at old) space.0 offset n number) t) (sym e)
    ∙ ap (λ (m : Memory). next m t) (sym (stored_after old new space.0 offset count number small address.0 puts keeps))

-- An address of a space modulo 2^64 is the same one.
wrapped : (p k : ℕ) → k ≤ 8 → p % 2 ^ 64 % 256 ^ k ≡ p % 256 ^ k
wrapped p k small = low-wrap p 64 k (omega arith)

wrapped_after : (p k i : ℕ) → k ≤ 8 → (p % 2 ^ 64 + i) % 256 ^ k ≡ (p + i) % 256 ^ k
wrapped_after p k i small =
    sym (mod-add-mod (p % 2 ^ 64) (256 ^ k) i) ∙ ap (λ r. (r + i) % 256 ^ k) (wrapped p k small) ∙ mod-add-mod p (256 ^ k) i

pub loaded_wrapped : (state : State) (m : Memory) (space p count : ℕ) → space < length (address_sizes state)
    → loaded (endian_of state) (address_sizes state) m space (p % 2 ^ 64) count ≡ loaded (endian_of state) (address_sizes state) m space p count
loaded_wrapped state m space p count inside =
    number_along (endian_of state) _ _ count (λ i h. ap (m space) (wrapped_after p (address_size state space) i (address_size-range state space inside).1))

pub stored_wrapped : (state : State) (m : Memory) (space p count number : ℕ) → space < length (address_sizes state)
    → stored (endian_of state) (address_sizes state) m space (p % 2 ^ 64) count number ≡ stored (endian_of state) (address_sizes state) m space p count number
stored_wrapped state m space p count number inside =
    let most : ℕ = 256 ^ address_size state space in
    ap (λ r. λ other. if other == space
    then (λ o. if nat_lt o most && nat_lt ((o + (most - r)) % most) count then byte_of (endian_of state) count number ((o + (most - r)) % most) else m space o)
    else m other)
    (wrapped p (address_size state space) (address_size-range state space inside).1)

-- A target that is a distance is a number of four bytes.
pub near : (sizes : List ℕ) (place : Place2) (offset bytes : ℕ) → IsTargetAt place bytes → IsAtPlace sizes place offset bytes → IsNear place offset
near sizes Const offset bytes four below = let same : 256 ^ bytes ≡ 2 ^ 32 = ap (λ n. 256 ^ n) four in omega (arith, same)
near sizes Unique offset bytes four below = tt
near sizes (In space) offset bytes four below = tt

-- An operation that is no division has a value.
pub has_value : (op : Op2) (b : ℕ) → (IsDivision op → ⊥) → has_no_value op b ≡ false
has_value IntAdd b whole = refl
has_value IntSub b whole = refl
has_value IntMult b whole = refl
has_value IntDiv b whole = absurd (whole tt)
has_value IntRem b whole = absurd (whole tt)
has_value IntSdiv b whole = absurd (whole tt)
has_value IntSrem b whole = absurd (whole tt)
has_value IntLeft b whole = refl
has_value IntRight b whole = refl
has_value IntSright b whole = refl
has_value IntAnd b whole = refl
has_value IntOr b whole = refl
has_value IntXor b whole = refl
has_value IntEqual b whole = refl
has_value IntNotEqual b whole = refl
has_value IntLess b whole = refl
has_value IntLessEqual b whole = refl
has_value IntSless b whole = refl
has_value IntSlessEqual b whole = refl
has_value IntCarry b whole = refl
has_value IntScarry b whole = refl
has_value IntSborrow b whole = refl
has_value BoolAnd b whole = refl
has_value BoolOr b whole = refl
has_value BoolXor b whole = refl
has_value Subpiece b whole = refl
