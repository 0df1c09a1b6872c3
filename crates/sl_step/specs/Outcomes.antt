-- view: what a step of a machine answers.
use Rattle.std.specs.Prelude.{◌≡◌, ℕ, ◌^◌, ◌<◌, false, List, ◌++◌, take, Option, None, Some, Result, Ok, Err}
use Rattle.sl_decode_contexts.specs.Commits.{IsContextAt}
use Rattle.sl_decode_meaning.specs.Decoding.{Decoded}
use Rattle.sl_decode_meaning.specs.Choices.{Choice}
use Rattle.sl_emu.specs.Outcomes.{HasEffectsOf, left_ending}
use Rattle.sl_faithful_lists.specs.Faithful.{IsFaithfulList}
use Rattle.sl_meaning_instruction.specs.Instructions.{Specification, is_unimplemented, setting_of}
use Rattle.sl_meaning_sections.specs.Values.{Fault, calls_user_op, divides_by_zero, jumps_too_often}
use Rattle.sl_pcode.specs.Machine.{EndsSo, run_of}
use Rattle.sl_pcode.specs.Operations.{operations}
use Rattle.sl_pcode.specs.declared.operation.Op.{Op}
use Rattle.sl_step.specs.Machines.{IsSeen}
use Rattle.sl_step.specs.Stages.{CountsMore}
use Rattle.sl_step.specs.declared.error.EmuFault.{EmuFault}
use Rattle.sl_step.specs.declared.error.EmuFault.TheVariants.{DivideByZero, JumpLimit, UserOp}
use Rattle.sl_step.specs.declared.error.StepError.{StepError}
use Rattle.sl_step.specs.declared.error.StepError.TheVariants.{Decode, Emu, Misaligned, NoMemory}
use Rattle.sl_step.specs.declared.error.StepError.TheVariants.{Unimplemented}
use Rattle.sl_step.specs.declared.machine.Machine.{Machine}
use Rattle.sl_step.specs.declared.step.Trace.{Trace}
use Rattle.sl_step_meaning.specs.Counted.{Counts}
use Rattle.sl_step_meaning.specs.Steps as steps
use Rattle.sl_step_meaning.specs.Steps.{IsStep, StepFault, committed, decoded_at, failed, goes, misaligned}
use Rattle.sl_step_meaning.specs.Steps.{stops, undecoded, unimplemented, window_of}
use Rattle.sl_word.specs.Memories.{Memory}

-- ---- faults

abbrev pub section_fault : EmuFault → Fault
section_fault DivideByZero = divides_by_zero
section_fault (UserOp op) = calls_user_op op.0
section_fault JumpLimit = jumps_too_often

-- why an instruction doesn't end; none where memory ran out
abbrev pub fault_of : StepError → Option StepFault
fault_of Misaligned = Some misaligned
fault_of (Decode fault) = Some (undecoded fault)
fault_of Unimplemented = Some unimplemented
fault_of (Emu fault) = Some (failed (section_fault fault))
fault_of NoMemory = None

-- ---- steps

module _ (s : Specification) (choose : Choice) (start : ℕ) (m : steps.Machine) where
  -- The list is faithful to the next instruction. So many of its operations ran whole, it was left
  -- to there, and this is the memory then.
  pub record IsTrace (trace : Trace) (memory : Memory) : Type 0 where
    pub context : ℕ
    pub low : context < 2 ^ 64
    pub at : IsContextAt start m.commits m.counter context
    pub told : Decoded
    pub decodes : decoded_at s choose start m context ≡ Ok told
    pub faithful : IsFaithfulList s (window_of s choose start m) m.counter told
        (operations trace.instruction.value.ops)
    pub ran : EndsSo trace.ran (run_of s.tables.endian
        (setting_of s.tables m.counter told.after).sizes
        (operations trace.instruction.value.ops) m.memory)
        (left_ending trace.left) memory

  -- The next instruction goes on so, the machine is the one behind it, and a runner's count grew by
  -- the operations that ran.
  pub record Goes (new : Machine) (before behind : ℕ) (trace : Trace) : Type 0 where
    pub next : steps.Machine
    pub step : IsStep s choose start m (goes next)
    pub seen : IsSeen start new next
    pub trace_is : IsTrace trace next.memory
    pub counts : Counts s choose start m trace.ran
    pub counted : CountsMore trace.ran before behind

  -- It stops by this fault, the machine is the one then, and the count grew in the same way.
  pub record Stops (new : Machine) (before behind : ℕ) (fault : StepFault) : Type 0 where
    pub last : steps.Machine
    pub count : ℕ
    pub step : IsStep s choose start m (stops fault last)
    pub seen : IsSeen start new last
    pub counts : Counts s choose start m count
    pub counted : CountsMore count before behind

  -- Memory ran out: before anything had changed; when some first commits of the instruction were
  -- made; or when all were, and some first operations of a list that
  -- is faithful to it had run.
  pub data IsCutShort (new : Machine) (before : ℕ) : (behind : ℕ) → Type 0 where
    nothing : IsSeen start new m → IsCutShort new before before
    some_commits : {context : ℕ} {d : Decoded} → (k : ℕ) → context < 2 ^ 64
        → IsContextAt start m.commits m.counter context → decoded_at s choose start m context ≡ Ok d
        → is_unimplemented s.constructors d.tree ≡ false
        → IsSeen start new (record m { commits = m.commits ++ take k d.commits })
        → IsCutShort new before before
    some_operations : {context behind : ℕ} {d : Decoded} {ops : List Op} {memory : Memory}
        → (ran : ℕ) → context < 2 ^ 64 → IsContextAt start m.commits m.counter context
        → decoded_at s choose start m context ≡ Ok d
        → IsFaithfulList s (window_of s choose start m) m.counter d ops
        → HasEffectsOf ran (run_of s.tables.endian
        (setting_of s.tables m.counter d.after).sizes ops m.memory) memory
        → IsSeen start new (record (committed s choose start m d) { memory = memory })
        → CountsMore ran before behind → IsCutShort new before behind

  -- It stops by this fault, or for want of memory.
  abbrev pub StopsBy : (new : Machine) (before behind : ℕ) → Option StepFault → Type 0
  StopsBy new before behind None = IsCutShort new before behind
  StopsBy new before behind (Some fault) = Stops new before behind fault

  -- This is what the next instruction comes to, and how a runner's count grew.
  abbrev pub Steps : (new : Machine) (before behind : ℕ) → Result Trace StepError → Type 0
  Steps new before behind (Ok trace) = Goes new before behind trace
  Steps new before behind (Err error) = StopsBy new before behind (fault_of error)
