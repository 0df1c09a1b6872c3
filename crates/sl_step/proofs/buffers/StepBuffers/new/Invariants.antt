use Rattle.std.specs.List.{All}
use Rattle.std.specs.Prelude.{IfSome}
use Rattle.sl_decode_meaning.specs.Choices.{Choice}
use Rattle.sl_meaning_instruction.specs.Instructions.{Specification}
use Rattle.sl_step.specs.Kept.{IsKept}
use Rattle.sl_step.proofs.buffers.StepBuffers.new.Given as goal

abbrev pub invariant-slots : goal.invariant-slots
invariant-slots l = (s : Specification) (choose : Choice)
    → All (λ slot. IfSome slot (λ x. IsKept s choose x.value)) l.slots.items
