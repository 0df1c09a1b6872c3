-- view: the parts of a step: an instruction that is read, and the run of its list.
use Rattle.std.specs.Prelude.{◌≡◌, ℕ, ◌+◌, ◌-◌, ◌%◌, ◌^◌, min, true, false, List, Result, Ok, Err}
use Rattle.sl_decode_contexts.specs.declared.commits.Commit.{Commit}
use Rattle.sl_decode_meaning.specs.Decoding.{Decoded, decoded}
use Rattle.sl_decode_meaning.specs.Flat.{entries}
use Rattle.sl_decode_meaning.specs.Choices.{Choice}
use Rattle.sl_decode_meaning.specs.declared.entries.Entry.{Entry}
use Rattle.sl_decode_meaning.specs.declared.faults.Fault as decoding
use Rattle.sl_emu.specs.Outcomes.{HasEffectsOf, left_ending, run_over}
use Rattle.sl_emu.specs.declared.run.EmuError.{EmuError}
use Rattle.sl_emu.specs.declared.run.EmuError.TheVariants as emu
use Rattle.sl_emu.specs.declared.run.Left.{Left}
use Rattle.sl_emu.specs.declared.run.Left.TheVariants.{Next, To}
use Rattle.sl_faithful_lists.specs.Faithful.{IsFaithfulList}
use Rattle.sl_meaning_instruction.specs.Instructions.{Specification, is_unimplemented}
use Rattle.sl_pcode.specs.Machine.{Ending, EndsSo, calls_user_op, divides_by_zero, jumps_too_often}
use Rattle.sl_pcode.specs.Operations.{operations}
use Rattle.sl_pcode.specs.declared.operation.Op.{Op}
use Rattle.sl_step.specs.declared.error.EmuFault.{EmuFault}
use Rattle.sl_step.specs.declared.error.EmuFault.TheVariants.{DivideByZero, JumpLimit, UserOp}
use Rattle.sl_step.specs.declared.error.StepError.{StepError}
use Rattle.sl_step.specs.declared.error.StepError.TheVariants.{Decode, Emu, Misaligned, NoMemory}
use Rattle.sl_step.specs.declared.error.StepError.TheVariants.{Unimplemented}
use Rattle.sl_step.specs.declared.machine.Machine.{Machine}
use Rattle.sl_step.specs.declared.step.Trace.{Trace}
use Rattle.sl_step.specs.declared.instruction.Listed.{Listed}
use Rattle.sl_step_meaning.specs.Steps as steps
use Rattle.sl_word.specs.Bytes.{byte_at}

-- the machine of the program, where these commits were made
abbrev pub machine_with : Machine → List Commit → steps.Machine
machine_with machine commits = record {
  memory = byte_at machine.state;
  counter = machine.counter;
  commits = commits;
}

-- ---- what bytes come to

-- bytes at an address, and a context
module _ (s : Specification) (choose : Choice) (bytes : List ℕ) (address context : ℕ) where
  abbrev pub told_by : Result Decoded decoding.Fault
  told_by = decoded s.tables s.constructors choose bytes address context

  -- They decode to an instruction with these commits, with this address behind it, and with this
  -- list, which is faithful to it.
  pub record IsRead (commits : List Commit) (after : ℕ) (ops : List Op) : Type 0 where
    pub told : Decoded
    pub decodes : told_by ≡ Ok told
    pub after_is : after ≡ told.after
    pub commits_are : commits ≡ told.commits
    pub implemented : is_unimplemented s.constructors told.tree ≡ false
    pub faithful : IsFaithfulList s bytes address told ops

  -- They decode to one that is `unimpl`.
  pub record IsUnimplemented : Type 0 where
    pub told : Decoded
    pub decodes : told_by ≡ Ok told
    pub marked : is_unimplemented s.constructors told.tree ≡ true

  -- Nothing was read of them, for this reason. Memory may run out.
  abbrev pub IsUnread : StepError → Type 0
  IsUnread (Decode fault) = told_by ≡ Err fault
  IsUnread Unimplemented = IsUnimplemented
  IsUnread NoMemory = Unit {0}
  IsUnread Misaligned = ⊥
  IsUnread (Emu fault) = ⊥

  -- what was read of them
  abbrev pub Reads : List Entry → List Commit → Result Listed StepError → Type 0
  Reads nodes commits (Ok listed) = (read : IsRead commits listed.after (operations listed.ops))
      × (nodes ≡ entries 0 read.told.tree)
  Reads nodes commits (Err error) = IsUnread error

-- ---- what a list comes to

-- where a list was left to, when an address stands behind its instruction
abbrev pub target : (after : ℕ) → Left → ℕ
target after Next = after
target after (To address) = address

abbrev pub fault_ending : EmuFault → Ending
fault_ending DivideByZero = divides_by_zero
fault_ending (UserOp user) = calls_user_op user.0
fault_ending JumpLimit = jumps_too_often

-- an error of a runner as one of a step
abbrev pub error_of : EmuError → StepError
error_of emu.DivideByZero = Emu DivideByZero
error_of (emu.UserOp user) = Emu (UserOp user)
error_of emu.JumpLimit = Emu JumpLimit
error_of emu.NoMemory = NoMemory

-- So many operations more are counted, up to the largest u64.
abbrev pub CountsMore : (ran before behind : ℕ) → Type 0
CountsMore ran before behind = behind ≡ min (before + ran) (2 ^ 64 - 1)

-- a list with an address behind it, in a space whose addresses have so many bytes; a machine and a
-- runner's count before and behind its run
module _ (ops : List Op) (after bytes : ℕ) (old new : Machine) (before behind : ℕ) where
  pub record IsExecuted (trace : Trace) : Type 0 where
    pub same : operations trace.instruction.value.ops ≡ ops
    pub ends : EndsSo trace.ran (run_over old.state ops) (left_ending trace.left)
        (byte_at new.state)
    pub counter : new.counter ≡ target after trace.left % 256 ^ bytes
    pub counted : CountsMore trace.ran before behind

  pub record IsFaulted (fault : EmuFault) : Type 0 where
    pub ran : ℕ
    pub ends : EndsSo ran (run_over old.state ops) (fault_ending fault) (byte_at new.state)
    pub counter : new.counter ≡ old.counter
    pub counted : CountsMore ran before behind

  -- Memory ran out when so many of its operations had run.
  pub record IsCut : Type 0 where
    pub ran : ℕ
    pub effects : HasEffectsOf ran (run_over old.state ops) (byte_at new.state)
    pub counter : new.counter ≡ old.counter
    pub counted : CountsMore ran before behind

  -- What came of its run.
  abbrev pub Runs : Result Trace StepError → Type 0
  Runs (Ok trace) = IsExecuted trace
  Runs (Err (Emu fault)) = IsFaulted fault
  Runs (Err NoMemory) = IsCut
  Runs (Err Misaligned) = ⊥
  Runs (Err (Decode fault)) = ⊥
  Runs (Err Unimplemented) = ⊥
