-- law: what the printed text of operations fixes.
use Rattle.std.specs.Prelude.{◌≡◌, ◌≢◌, ℕ, ◌<◌, List, [], ◌∷◌, length, codes, IfSome}
use Rattle.sl_word.specs.Memories.{Memory}
use Rattle.sl_word.specs.Sizes.{byte_counts}
use Rattle.sl_word.specs.declared.word.Endian.{Endian}
use Rattle.sl_pcode.specs.Effects.{effect_of}
use Rattle.sl_pcode.specs.Machine.{Ending, Run, Temporaries as Bytes, op_does}
use Rattle.sl_pcode.specs.Text.{name_at, op_text}
use Rattle.sl_pcode.specs.WellFormed.{IsWellFormedOp}
use Rattle.sl_pcode.specs.declared.effect.Effect.{Effect}
use Rattle.sl_pcode.specs.declared.effect.Effect.TheVariants.{UserOp}
use Rattle.sl_pcode.specs.declared.operation.Op.{Op}
use Rattle.sl_pcode.specs.declared.print.Names.{Names}

-- A text has no such byte.
abbrev pub Lacks : ℕ → List ℕ → Type 0
Lacks d [] = Unit {0}
Lacks d (x ∷ xs) = (x ≢ d) × Lacks d xs

-- A name has no blank, comma, colon or bracket, by which the parts of a text are told apart.
pub record IsPlain (name : List ℕ) : Type 0 where
  pub blank : Lacks 32 name
  pub comma : Lacks 44 name
  pub colon : Lacks 58 name
  pub bracket : Lacks 91 name

-- Spaces and user operations have plain names, each kind no two the same, and no space is called as temporary bytes are.
pub record AreReadable (names : Names) : Type 0 where
  pub plain : (i : ℕ) → IsPlain (name_at names.spaces.items i)
  pub plain_user : (i : ℕ) → IsPlain (name_at names.userops.items i)
  pub apart : (i j : ℕ) → i < length (byte_counts names.sizes.items) → j < length (byte_counts names.sizes.items)
      → name_at names.spaces.items i ≡ name_at names.spaces.items j → i ≡ j
  pub apart_user : (i j : ℕ) → i < length names.userops.items → j < length names.userops.items
      → name_at names.userops.items i ≡ name_at names.userops.items j → i ≡ j
  pub own : (i : ℕ) → name_at names.spaces.items i ≢ codes "unique"

-- A user operation has a name.
abbrev pub HasName : Names → Effect → Type 0
HasName names (UserOp number) = number.offset < length names.userops.items
HasName names _ = Unit {0}

-- A well-formed operation, all of which has names.
pub record IsNamedOp (names : Names) (op : Op) : Type 0 where
  pub formed : IsWellFormedOp (byte_counts names.sizes.items) op
  pub named : IfSome (effect_of op) (HasName names)

-- Two operations do the same to each machine, whatever follows.
abbrev pub DoTheSame : Op → Op → Type 0
DoTheSame a b = (endian : Endian) (sizes : List ℕ) (m : Memory) (t : Bytes)
    (next : Memory → Bytes → Run) (jump : ℕ → Run) (leave fault : Ending → Run)
    → op_does endian sizes (effect_of a) m t next jump leave fault
    ≡ op_does endian sizes (effect_of b) m t next jump leave fault

-- The text of an operation fixes what it does.
abbrev pub TextsFixRuns : Type 0
TextsFixRuns = (names : Names) (a b : Op) → AreReadable names → IsNamedOp names a → IsNamedOp names b
    → op_text names a ≡ op_text names b → DoTheSame a b
