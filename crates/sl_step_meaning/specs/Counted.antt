-- meaning: how many operations of p-code run in instructions.
use Rattle.std.specs.Prelude.{◌≡◌, ℕ, zero, suc, ◌+◌, ◌%◌, ◌^◌, ◌<◌, ◌≤◌, true, false, List}
use Rattle.std.specs.Prelude.{Option, None, Some, Ok, Err}
use Rattle.sl_decode_contexts.specs.Commits.{IsContextAt}
use Rattle.sl_decode_meaning.specs.Decoding.{Decoded}
use Rattle.sl_decode_meaning.specs.Choices.{Choice}
use Rattle.sl_decode_meaning.specs.declared.faults.Fault.{Fault}
use Rattle.sl_faithful_lists.specs.Faithful.{IsFaithfulList}
use Rattle.sl_meaning_instruction.specs.Instructions.{Specification, is_unimplemented, setting_of}
use Rattle.sl_pcode.specs.Machine.{ran_of, run_of}
use Rattle.sl_pcode.specs.declared.operation.Op.{Op}
use Rattle.sl_step_meaning.specs.Steps.{IsStep, Machine, StepFault, decoded_at, goes, stops}
use Rattle.sl_step_meaning.specs.Steps.{window_of}

module _ (s : Specification) (choose : Choice) (start : ℕ) where
  -- This many operations ran whole of a list that is faithful to the instruction.
  pub record RanOf (m : Machine) (d : Decoded) (count : ℕ) : Type 0 where
    pub ops : List Op
    pub faithful : IsFaithfulList s (window_of s choose start m) m.counter d ops
    pub count_is : count ≡ ran_of (run_of s.tables.endian
        (setting_of s.tables m.counter d.after).sizes ops m.memory)

  -- How many operations run in the next instruction: none where its section doesn't run.
  pub data Counts (m : Machine) : ℕ → Type 0 where
    off : {beyond : ℕ} → m.counter % s.tables.alignment ≡ beyond → 1 ≤ beyond → Counts m 0
    undecoded : {context : ℕ} {fault : Fault} → m.counter % s.tables.alignment ≡ 0
        → context < 2 ^ 64 → IsContextAt start m.commits m.counter context
        → decoded_at s choose start m context ≡ Err fault → Counts m 0
    unimplemented : {context : ℕ} {d : Decoded} → m.counter % s.tables.alignment ≡ 0
        → context < 2 ^ 64 → IsContextAt start m.commits m.counter context
        → decoded_at s choose start m context ≡ Ok d
        → is_unimplemented s.constructors d.tree ≡ true → Counts m 0
    executed : {context count : ℕ} {d : Decoded} → m.counter % s.tables.alignment ≡ 0
        → context < 2 ^ 64 → IsContextAt start m.commits m.counter context
        → decoded_at s choose start m context ≡ Ok d
        → is_unimplemented s.constructors d.tree ≡ false → RanOf m d count → Counts m count

  -- So many instructions, or as many as end before the first fault: their number, how many
  -- operations ran in all of them, that with the fault too, the machine then, and the fault.
  pub data IsCountedRun : (most : ℕ) → Machine → (ran count : ℕ) → Machine → Option StepFault
      → Type 0 where
    ended : {m : Machine} → IsCountedRun zero m 0 0 m None
    ran : {most n here more : ℕ} {m next last : Machine} {fault : Option StepFault}
        → IsStep s choose start m (goes next) → Counts m here
        → IsCountedRun most next n more last fault
        → IsCountedRun (suc most) m (suc n) (here + more) last fault
    faulted : {most here : ℕ} {m last : Machine} {fault : StepFault}
        → IsStep s choose start m (stops fault last) → Counts m here
        → IsCountedRun (suc most) m 0 here last (Some fault)
