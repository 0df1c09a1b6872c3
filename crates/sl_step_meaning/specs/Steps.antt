-- meaning: what an instruction does to a machine, and what several do, one after another.
use Rattle.std.specs.Prelude.{◌≡◌, ℕ, zero, suc, ◌+◌, ◌%◌, ◌^◌, ◌<◌, ◌≤◌, if◌then◌else◌}
use Rattle.std.specs.Prelude.{List, ◌++◌, map, Option, None, Some, Result, Ok, Err}
use Rattle.std.specs.List.{range_with_len}
use Rattle.sl_decode_contexts.specs.Commits.{IsContextAt}
use Rattle.sl_decode_contexts.specs.declared.commits.Commit.{Commit}
use Rattle.sl_decode_meaning.specs.Actions.{address_bytes}
use Rattle.sl_decode_meaning.specs.Decoding.{Decoded, decoded}
use Rattle.sl_decode_meaning.specs.Choices.{Choice}
use Rattle.sl_decode_meaning.specs.declared.faults.Fault as decoding
use Rattle.sl_meaning_instruction.specs.Instructions.{Specification, default_space, instruction}
use Rattle.sl_meaning_instruction.specs.Instructions.{is_unimplemented, setting_of}
use Rattle.sl_meaning_sections.specs.Nodes.{After, after_outcome, goes_to, outcome, stopped}
use Rattle.sl_meaning_sections.specs.Values.{Fault}
use Rattle.sl_word.specs.Memories.{Memory}

-- A machine between two instructions: its memory, the address of the next instruction, and the
-- commits of context so far, in their order.
pub record Machine : Type 0 where
  pub memory : Memory
  pub counter : ℕ
  pub commits : List Commit

-- Why an instruction doesn't end: its address is no multiple of the alignment, it doesn't decode,
-- it is `unimpl`, or its section has a fault.
pub data StepFault : Type 0 where
  misaligned : StepFault
  undecoded : decoding.Fault → StepFault
  unimplemented : StepFault
  failed : Fault → StepFault

-- The machine behind an instruction, or a fault and the machine then.
pub data Stepped : Type 0 where
  goes : Machine → Stepped
  stops : StepFault → Machine → Stepped

-- the number of bytes that a decode is told
abbrev pub step_window : ℕ
step_window = 272

-- behind a section the machine goes on at an address; at a fault it stays at the instruction
abbrev pub executed : Machine → After → Stepped
executed m (goes_to address memory) =
    goes (record m { memory = memory; counter = address })
executed m (stopped fault memory) = stops (failed fault) (record m { memory = memory })

-- by the choice of constructors, and the context where no commit counts
module _ (s : Specification) (choose : Choice) (start : ℕ) where
  -- the bytes from the machine's address on, round the end of the default space
  abbrev pub window_of : Machine → List ℕ
  window_of m = map (λ i. m.memory (default_space s.tables)
      ((m.counter + i) % 256 ^ address_bytes s.tables)) (range_with_len 0 step_window)

  -- what the machine's next instruction decodes to, from a context
  abbrev pub decoded_at : Machine → (context : ℕ) → Result Decoded decoding.Fault
  decoded_at m context = decoded s.tables s.constructors choose (window_of m) m.counter context

  -- how the section of a decode ends, at the machine's address
  abbrev pub after_of : Machine → Decoded → After
  after_of m d = let g = setting_of s.tables m.counter d.after in
      after_outcome g (outcome g (instruction s (window_of m) d.tree) m.memory)

  -- with the commits of a decode, which are made before its section runs
  abbrev pub committed : Machine → Decoded → Machine
  committed m d = record m { commits = m.commits ++ d.commits }

  abbrev pub run_decoded : Machine → Result Decoded decoding.Fault → Stepped
  run_decoded m (Err fault) = stops (undecoded fault) m
  run_decoded m (Ok d) = if is_unimplemented s.constructors d.tree then stops unimplemented m
      else executed (committed m d) (after_of m d)

  -- What the next instruction comes to. It is decoded from memory, from the context at its address.
  pub data IsStep (m : Machine) : Stepped → Type 0 where
    off : {beyond : ℕ} → m.counter % s.tables.alignment ≡ beyond → 1 ≤ beyond
        → IsStep m (stops misaligned m)
    on : {context : ℕ} → m.counter % s.tables.alignment ≡ 0 → context < 2 ^ 64
        → IsContextAt start m.commits m.counter context
        → IsStep m (run_decoded m (decoded_at m context))

  -- So many instructions, or as many as end before the first fault: their number, the machine then,
  -- and the fault.
  pub data IsRun : (most : ℕ) → Machine → (ran : ℕ) → Machine → Option StepFault → Type 0 where
    ended : {m : Machine} → IsRun zero m 0 m None
    ran : {most n : ℕ} {m next last : Machine} {fault : Option StepFault}
        → IsStep m (goes next) → IsRun most next n last fault
        → IsRun (suc most) m (suc n) last fault
    faulted : {most : ℕ} {m last : Machine} {fault : StepFault}
        → IsStep m (stops fault last) → IsRun (suc most) m 0 last (Some fault)
