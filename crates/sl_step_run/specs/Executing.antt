-- view: which outcome an execution is, and by how much a runner's count grew.
use Rattle.std.specs.Prelude.{◌≡◌, ℕ, ◌+◌, ◌-◌, ◌^◌, min, List, Option, None, Some, option_map}
use Rattle.sl_ast.specs.Trees.{Item}
use Rattle.sl_decode_meaning.specs.Choices.{Choice}
use Rattle.sl_meaning_instruction.specs.Instructions.{Specification}
use Rattle.sl_list_instructions.specs.Listing.{Image}
use Rattle.sl_step_run.specs.Running.{IsCountedRunText, RunOutcome, RunsCountedTo}
use Rattle.sl_step_run.specs.declared.execution.Execution.{Execution}
use Rattle.sl_step_run.specs.declared.fault.RunFault.{RunFault}
use Rattle.sl_step_run.specs.declared.fault.RunFault.TheVariants.{Decode, Misaligned, Section}
use Rattle.sl_step_run.specs.declared.fault.RunFault.TheVariants.{Unimplemented}
use Rattle.sl_step_run.specs.declared.running.Ran.{Ran}
use Rattle.sl_spec.specs.declared.tables.Tables.{Tables}
use Rattle.sl_step.specs.Machines.{Fits, IsSeen}
use Rattle.sl_step.specs.Outcomes.{section_fault}
use Rattle.sl_step.specs.declared.machine.Machine.{Machine}
use Rattle.sl_step_meaning.specs.Counted.{Counts, IsCountedRun}
use Rattle.sl_step_meaning.specs.Steps as steps
use Rattle.sl_step_meaning.specs.Steps.{IsStep, StepFault, Stepped, failed, goes, misaligned, stops}
use Rattle.sl_step_meaning.specs.Steps.{undecoded, unimplemented}
use Rattle.sl_word.specs.declared.word.Size.{Size}

-- ---- faults

abbrev pub fault_of : RunFault → StepFault
fault_of Misaligned = misaligned
fault_of (Decode fault) = undecoded fault
fault_of Unimplemented = unimplemented
fault_of (Section fault) = failed (section_fault fault)

-- why a run stopped, if it did
abbrev pub stopped_by : Option RunFault → Option StepFault
stopped_by fault = option_map fault_of fault

-- ---- steps

-- A count grew by so much, up to the largest u64.
abbrev pub GrowsBy : (by old new : ℕ) → Type 0
GrowsBy by old new = new ≡ min (old + by) (2 ^ 64 - 1)

module _ (s : Specification) (choose : Choice) (start : ℕ) (m : steps.Machine) (new : Machine)
    (old_count new_count : ℕ) where
  -- The next instruction of a machine comes to this, and a runner's count grew by the operations
  -- that ran in it.
  pub record Makes (stepped : Stepped) (behind : steps.Machine) : Type 0 where
    pub count : ℕ
    pub step : IsStep s choose start m stepped
    pub counts : Counts s choose start m count
    pub seen : IsSeen start new behind
    pub counted : GrowsBy count old_count new_count

  -- It goes on, or it stops by this fault.
  abbrev pub Steps : Option StepFault → Type 0
  Steps None = (next : steps.Machine) × Makes (goes next) next
  Steps (Some fault) = (last : steps.Machine) × Makes (stops fault last) last

  -- The next instructions, at most so many, end so, and a runner's count grew by the operations
  -- that ran in them.
  pub record Runs (most ran : ℕ) (fault : Option StepFault) : Type 0 where
    pub last : steps.Machine
    pub count : ℕ
    pub runs : IsCountedRun s choose start most m ran count last fault
    pub seen : IsSeen start new last
    pub counted : GrowsBy count old_count new_count

-- ---- runs of images

module _ (items : List Item) (t : Tables) (sizes : List (List Size)) (i : Image) (steps : ℕ)
    (old new : ℕ) where
  -- The execution is the outcome of the image's run, and a runner's count grew by the operations
  -- that ran.
  pub record Executes (e : Execution) : Type 0 where
    pub outcome : RunOutcome
    pub count : ℕ
    pub runs : RunsCountedTo items t sizes i steps count outcome
    pub ran_is : outcome.ran ≡ e.ran
    pub fault_is : outcome.fault ≡ stopped_by e.fault
    pub seen : IsSeen i.start e.machine outcome.machine
    pub fits : Fits t e.machine
    pub counted : GrowsBy count old new

  -- The text tells the run, and so it is.
  pub record RunsAs (r : Ran) : Type 0 where
    pub count : ℕ
    pub tells : IsCountedRunText items t sizes i steps count r.stopped r.text.items
    pub counted : GrowsBy count old new
