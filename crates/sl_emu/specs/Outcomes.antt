-- view: how the run of a list ends, as a runner answers it.
use Rattle.std.specs.Prelude.{◌≡◌, ℕ, List, IsSomeAnd}
use Rattle.sl_word.specs.Bytes.{address_sizes, byte_at, endian_of}
use Rattle.sl_word.specs.Memories.{Memory}
use Rattle.sl_word.specs.declared.state.State.{State}
use Rattle.sl_pcode.specs.Machine.{Ending, at_end, leaves_to, divides_by_zero, calls_user_op, jumps_too_often, Run, run_of, rest_after, first_memory, EndsSo}
use Rattle.sl_pcode.specs.declared.operation.Op.{Op}
use Rattle.sl_emu.specs.declared.run.EmuError.{EmuError}
use Rattle.sl_emu.specs.declared.run.EmuError.TheVariants.{DivideByZero, UserOp, JumpLimit, NoMemory}
use Rattle.sl_emu.specs.declared.run.Left.{Left}
use Rattle.sl_emu.specs.declared.run.Left.TheVariants.{Next, To}

-- The run of operations over a state.
abbrev pub run_over : State → List Op → Run
run_over state ops = run_of (endian_of state) (address_sizes state) ops (byte_at state)

-- How a run ends that isn't a fault.
abbrev pub left_ending : Left → Ending
left_ending Next = at_end
left_ending (To address) = leaves_to address

-- The memory has the effects of the first n operations of a run, and no others.
abbrev pub HasEffectsOf : ℕ → Run → Memory → Type 0
HasEffectsOf n run memory = IsSomeAnd (rest_after n run) (λ rest. first_memory rest ≡ memory)

-- An error is the fault by which a run of n operations ends, or for want of memory none.
abbrev pub IsErrorOf : ℕ → Run → Memory → EmuError → Type 0
IsErrorOf n run memory DivideByZero = EndsSo n run divides_by_zero memory
IsErrorOf n run memory (UserOp user) = EndsSo n run (calls_user_op user.0) memory
IsErrorOf n run memory JumpLimit = EndsSo n run jumps_too_often memory
IsErrorOf n run memory NoMemory = Unit {0}
