-- meaning: what a list of operations does to a machine, operation by operation.
use Rattle.std.specs.Prelude.{◌≡◌, ℕ, zero, suc, ◌+◌, ◌-◌, ◌%◌, ◌^◌, ◌==◌, ◌&&◌, if◌then◌else◌, Bool, false, nat_lt, nat_le, List, [], ◌∷◌, drop, Option, Some, None}
use Rattle.sl_word.specs.Layout.{byte_of, number_of}
use Rattle.sl_word.specs.Memories.{Memory, loaded, stored}
use Rattle.sl_word.specs.Operations.{value1, value2}
use Rattle.sl_word.specs.declared.operation.Op2.{Op2}
use Rattle.sl_word.specs.declared.operation.Op2.TheVariants.{IntDiv, IntRem, IntSdiv, IntSrem}
use Rattle.sl_word.specs.declared.word.Endian.{Endian}
use Rattle.sl_pcode.specs.Effects.{effect_of}
use Rattle.sl_pcode.specs.Targets.{place_at}
use Rattle.sl_pcode.specs.declared.effect.Effect.{Effect}
use Rattle.sl_pcode.specs.declared.effect.Effect.TheVariants.{Unary, Binary, Load, Store, Branch, CBranch, Call, Indirect, UserOp}
use Rattle.sl_pcode.specs.declared.operation.Op.{Op}
use Rattle.sl_pcode.specs.declared.varnode.Place2.{Place2}
use Rattle.sl_pcode.specs.declared.varnode.Place2.TheVariants.{Const, Unique, In}
use Rattle.sl_pcode.specs.declared.varnode.Varnode.{Varnode}

-- Temporary bytes by offset.
abbrev pub Temporaries : Type 0
Temporaries = ℕ → ℕ

-- Temporary bytes with `count` others from an offset on.
abbrev pub with_temporaries : ℕ → ℕ → (ℕ → ℕ) → Temporaries → Temporaries
with_temporaries base count byte t offset =
    if nat_le base offset && nat_lt offset (base + count) then byte (offset - base) else t offset

-- How a run ends: behind the last operation, at an address outside the list, or by a fault.
pub data Ending : Type 0 where
  at_end : Ending
  leaves_to : (address : ℕ) → Ending
  divides_by_zero : Ending
  calls_user_op : (number : ℕ) → Ending
  jumps_too_often : Ending

-- A run: the memory before each operation that runs whole, in order, and at last how it ends, with the memory then.
pub data Run : Type 0 where
  ended : (ending : Ending) (memory : Memory) → Run
  whole : (memory : Memory) (rest : Run) → Run

-- So many jumps inside the list are taken in a run; the next one is a fault.
unfoldable pub jump_limit : ℕ
jump_limit = 65536

-- The operation has no value where b is 0.
abbrev pub has_no_value : Op2 → ℕ → Bool
has_no_value IntDiv b = b == 0
has_no_value IntRem b = b == 0
has_no_value IntSdiv b = b == 0
has_no_value IntSrem b = b == 0
has_no_value _ b = false

-- A target is a distance in the list, or an address.
abbrev pub at_target : {R : Type 0} → Place2 → ℕ → (jump : ℕ → R) (leave : Ending → R) → R
at_target Const offset jump leave = jump offset
at_target Unique offset jump leave = leave (leaves_to offset)
at_target (In space) offset jump leave = leave (leaves_to offset)

-- A machine's order of bytes, and how many bytes an address has in each space.
module _ (endian : Endian) (sizes : List ℕ) where
  -- The number that a place has at an offset, in so many bytes.
  abbrev pub value_at : Place2 → ℕ → ℕ → Memory → Temporaries → ℕ
  value_at Const offset count m t = offset
  value_at Unique offset count m t = number_of endian (λ i. t (offset + i)) count
  value_at (In space) offset count m t = loaded endian sizes m space.0 offset count

  abbrev pub value_of : Varnode → Memory → Temporaries → ℕ
  value_of v m t = value_at v.place v.offset v.size.bytes m t

  -- What follows with a number put at a place. Nothing is put into a constant.
  abbrev pub put_at : {R : Type 0} → Place2 → ℕ → ℕ → ℕ → Memory → Temporaries → (Memory → Temporaries → R) → R
  put_at Const offset count number m t next = next m t
  put_at Unique offset count number m t next = next m (with_temporaries offset count (byte_of endian count number) t)
  put_at (In space) offset count number m t next = next (stored endian sizes m space.0 offset count number) t

  abbrev pub put : {R : Type 0} → Varnode → ℕ → Memory → Temporaries → (Memory → Temporaries → R) → R
  put v number m t next = put_at v.place v.offset v.size.bytes number m t next

  -- What an operation does to memory and temporary bytes: it goes on with the next one, jumps a distance in the list, leaves
  -- the list, or ends the run by a fault. Each is a parameter, and the memory that leaving or a fault finds is the old one.
  abbrev pub does : {R : Type 0} → Effect → Memory → Temporaries → (next : Memory → Temporaries → R) (jump : ℕ → R) (leave : Ending → R) (fault : Ending → R) → R
  does (Unary f out a) m t next jump leave fault =
      put out (value1 f a.size.bytes out.size.bytes (value_of a m t)) m t next
  does (Binary f out a b) m t next jump leave fault =
      if has_no_value f (value_of b m t) then fault divides_by_zero
      else put out (value2 f a.size.bytes out.size.bytes (value_of a m t) (value_of b m t)) m t next
  does (Load out space pointer) m t next jump leave fault =
      put out (loaded endian sizes m space.offset (value_of pointer m t) out.size.bytes) m t next
  does (Store space pointer value) m t next jump leave fault =
      next (stored endian sizes m space.offset (value_of pointer m t) value.size.bytes (value_of value m t)) t
  does (Branch target) m t next jump leave fault = at_target target.place target.offset jump leave
  does (CBranch target condition) m t next jump leave fault =
      if value_of condition m t == 0 then next m t else at_target target.place target.offset jump leave
  does (Call target) m t next jump leave fault = leave (leaves_to target.offset)
  does (Indirect pointer) m t next jump leave fault = leave (leaves_to (value_of pointer m t % 2 ^ 64))
  does (UserOp number) m t next jump leave fault = fault (calls_user_op number.offset)

  -- An operation without the operands of its code does nothing.
  abbrev pub op_does : {R : Type 0} → Option Effect → Memory → Temporaries → (next : Memory → Temporaries → R) (jump : ℕ → R) (leave : Ending → R) (fault : Ending → R) → R
  op_does (Some effect) m t next jump leave fault = does effect m t next jump leave fault
  op_does None m t next jump leave fault = next m t

  -- The run of operations, the first of which is at a place. What a jump to a place does is a parameter.
  unfoldable pub ops_run : (jump : ℕ → Memory → Temporaries → Run) → ℕ → List Op → Memory → Temporaries → Run
  ops_run jump at [] m t = ended at_end m
  ops_run jump at (op ∷ ops) m t =
      op_does (effect_of op) m t (λ m' t'. whole m (ops_run jump (at + 1) ops m' t')) (λ distance. jump (place_at at distance) m t)
      (λ ending. whole m (ended ending m)) (λ ending. ended ending m)

  -- The run from a jump on to a place of the list, where so many jumps are left.
  unfoldable pub jump_run : List Op → ℕ → ℕ → Memory → Temporaries → Run
  jump_run ops zero at m t = ended jumps_too_often m
  jump_run ops (suc left) at m t = whole m (ops_run (jump_run ops left) at (drop at ops) m t)

  -- The run of a list from a place on, where so many jumps are left.
  unfoldable pub run_from : List Op → ℕ → ℕ → Memory → Temporaries → Run
  run_from ops left at m t = ops_run (jump_run ops left) at (drop at ops) m t

  -- The run of a list. Temporary bytes are 0 at first.
  unfoldable pub run_of : List Op → Memory → Run
  run_of ops m = run_from ops jump_limit 0 m (λ offset. 0)

-- How many operations run whole.
abbrev pub ran_of : Run → ℕ
ran_of (ended ending m) = 0
ran_of (whole m rest) = ran_of rest + 1

-- How a run ends, and the memory then.
abbrev pub ending_of : Run → Ending
ending_of (ended ending m) = ending
ending_of (whole m rest) = ending_of rest

abbrev pub memory_of : Run → Memory
memory_of (ended ending m) = m
memory_of (whole m rest) = memory_of rest

-- What is left of a run behind its first operations.
abbrev pub rest_after : ℕ → Run → Option Run
rest_after zero run = Some run
rest_after (suc n) (ended ending m) = None
rest_after (suc n) (whole m rest) = rest_after n rest

-- The memory at the beginning of a run.
abbrev pub first_memory : Run → Memory
first_memory (ended ending m) = m
first_memory (whole m rest) = m

-- A run runs so many operations whole, and ends so, with this memory.
pub record EndsSo (n : ℕ) (run : Run) (last : Ending) (m : Memory) : Type 0 where
  pub ran : ran_of run ≡ n
  pub ending : ending_of run ≡ last
  pub memory : memory_of run ≡ m
