-- step: what one operation came to.
use Rattle.std.specs.Prelude.{◌≡◌, ℕ, ◌^◌, ◌<◌, List, Option, Some, None, Result, Ok, Err}
use Rattle.sl_word.specs.Memories.{Memory}
use Rattle.sl_word.specs.declared.word.Endian.{Endian}
use Rattle.sl_pcode.specs.declared.effect.Effect.{Effect}
use Rattle.sl_pcode.specs.declared.varnode.Place2.{Place2}
use Rattle.sl_pcode.specs.declared.varnode.Place2.TheVariants.{Const, Unique, In}
use Rattle.sl_pcode.specs.declared.varnode.Varnode.{Varnode}
use Rattle.sl_pcode.specs.Effects.{effect_of}
use Rattle.sl_pcode.specs.declared.operation.Op.{Op}
use Rattle.sl_pcode.specs.Machine.{at_target, does, op_does, Ending, leaves_to, divides_by_zero, calls_user_op, jumps_too_often, Run, ended, whole, Temporaries as Bytes}
use Rattle.sl_emu.specs.Outcomes.{left_ending}
use Rattle.sl_emu.specs.declared.run.EmuError.{EmuError}
use Rattle.sl_emu.specs.declared.run.EmuError.TheVariants.{DivideByZero, UserOp, JumpLimit, NoMemory}
use Rattle.sl_emu.specs.declared.run.Left.{Left}
use Rattle.sl_emu.specs.declared.step.Then.{Then}
use Rattle.sl_emu.specs.declared.step.Then.TheVariants.{Next, Jump, Leave, DividesByZero, CallsUserOp}

-- A target that is a distance is a number of four bytes.
abbrev pub IsNear : Place2 → ℕ → Type 0
IsNear Const offset = offset < 2 ^ 32
IsNear Unique offset = Unit {0}
IsNear (In space) offset = Unit {0}

-- What follows an operation, of what may follow.
abbrev pub follows : Then → Memory → Bytes → (next : Memory → Bytes → Run) (jump : ℕ → Run) (leave : Ending → Run) (fault : Ending → Run) → Run
follows Next m t next jump leave fault = next m t
follows (Jump distance) m t next jump leave fault = jump distance
follows (Leave address) m t next jump leave fault = leave (leaves_to address)
follows DividesByZero m t next jump leave fault = fault divides_by_zero
follows (CallsUserOp user) m t next jump leave fault = fault (calls_user_op user.0)

-- Only where the next operation follows, memory and temporary bytes may be others; a distance is a number of four bytes.
abbrev pub IsSteady : Then → Memory → Bytes → Memory → Bytes → Type 0
IsSteady Next m t m' t' = Unit {0}
IsSteady (Jump distance) m t m' t' = (distance < 2 ^ 32) × (m' ≡ m) × (t' ≡ t)
IsSteady (Leave address) m t m' t' = m' ≡ m
IsSteady DividesByZero m t m' t' = m' ≡ m
IsSteady (CallsUserOp user) m t m' t' = m' ≡ m

-- What a turn came to, of the run before it and the one behind it.
abbrev pub Turned : Memory → Run → Memory → Run → Result (Option Left) EmuError → Type 0
Turned old before new after (Ok None) = before ≡ whole old after
Turned old before new after (Ok (Some left)) = (before ≡ whole old (ended (left_ending left) old)) × (new ≡ old)
Turned old before new after (Err DivideByZero) = (before ≡ ended divides_by_zero old) × (new ≡ old)
Turned old before new after (Err (UserOp user)) = (before ≡ ended (calls_user_op user.0) old) × (new ≡ old)
Turned old before new after (Err JumpLimit) = (before ≡ ended jumps_too_often old) × (new ≡ old)
Turned old before new after (Err NoMemory) = new ≡ old

-- An operation does this to memory and temporary bytes, whatever follows.
pub record Does (endian : Endian) (sizes : List ℕ) (effect : Effect) (m : Memory) (t : Bytes) (m' : Memory) (t' : Bytes) (then : Then) : Type 0 where
  pub runs : (next : Memory → Bytes → Run) (jump : ℕ → Run) (leave fault : Ending → Run)
      → does endian sizes effect m t next jump leave fault ≡ follows then m' t' next jump leave fault
  pub steady : IsSteady then m t m' t'

-- The same of an operation, by what its code makes of its operands.
pub record OpDoes (endian : Endian) (sizes : List ℕ) (op : Op) (m : Memory) (t : Bytes) (m' : Memory) (t' : Bytes) (then : Then) : Type 0 where
  pub runs : (next : Memory → Bytes → Run) (jump : ℕ → Run) (leave fault : Ending → Run)
      → op_does endian sizes (effect_of op) m t next jump leave fault ≡ follows then m' t' next jump leave fault
  pub steady : IsSteady then m t m' t'

-- This follows a jump to a target, whatever a jump and leaving do.
pub record IsTargetThen (target : Varnode) (then : Then) : Type 0 where
  pub runs : (m : Memory) (t : Bytes) (next : Memory → Bytes → Run) (jump : ℕ → Run) (leave fault : Ending → Run)
      → at_target target.place target.offset jump leave ≡ follows then m t next jump leave fault
  pub steady : (m : Memory) (t : Bytes) → IsSteady then m t m t
