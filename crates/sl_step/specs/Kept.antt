-- view: instructions that are kept.
use Rattle.std.specs.Prelude.{◌≡◌, ◌<◌, ℕ, List, IfSome, length, take}
use Rattle.std.specs.List.{All}
use Rattle.sl_decode_meaning.specs.Choices.{Choice}
use Rattle.sl_meaning_instruction.specs.Instructions.{Specification}
use Rattle.sl_pcode.specs.Operations.{operations}
use Rattle.sl_step.specs.Stages.{IsRead}
use Rattle.sl_step.specs.declared.buffers.StepBuffers.{StepBuffers}
use Rattle.sl_step.specs.declared.instruction.Instruction.{Instruction}
use Rattle.sl_step_meaning.specs.Steps.{step_window}

-- It is what these bytes decode to at an address, from a context.
abbrev pub IsReadAs : Specification → Choice → List ℕ → (address context : ℕ) → Instruction → Type 0
IsReadAs s choose bytes address context x =
    IsRead s choose bytes address context x.commits.items x.after (operations x.ops)

-- It is what all bytes decode to that begin with those that it was read from.
abbrev pub IsKept : Specification → Choice → Instruction → Type 0
IsKept s choose x = (bytes : List ℕ) → take (length x.bytes.items) bytes ≡ x.bytes.items
    → IsReadAs s choose bytes x.address x.context x

-- It is what these bytes decode to; and what all do that begin as they do, where its decode looked
-- at fewer bytes than it was told.
pub record IsReadFrom (s : Specification) (choose : Choice) (bytes : List ℕ) (address context : ℕ)
    (x : Instruction) : Type 0 where
  pub reads : IsReadAs s choose bytes address context x
  pub kept : length x.bytes.items < step_window → IsKept s choose x

-- Each that is kept is what was read.
abbrev pub AreKept : Specification → Choice → StepBuffers → Type 0
AreKept s choose buffers = All (λ slot. IfSome slot (λ x. IsKept s choose x.value)) buffers.slots.items
