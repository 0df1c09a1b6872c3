-- view: the first table operand of a constructor.
use Rattle.std.specs.Prelude.{◌≡◌, ◌≤◌, ◌<◌, List, [], ◌∷◌, Option, Some, None}
use Rattle.sl_decode_leaves.specs.Extents.{extent}
use Rattle.sl_decode_plan.specs.declared.plans.Slot.{Slot}
use Rattle.sl_gap_operands.specs.declared.first.FirstOperand.{FirstOperand}

-- The first slot, which is near enough; or there is none, or it is farther away.
abbrev pub TellsFirst : List Slot → Option FirstOperand → Type 0
TellsFirst slots (Some o) = (s : Slot) × (rest : List Slot) × (slots ≡ s ∷ rest) × (s.table ≡ o.table) × (o.place ≡ extent s.place []) × (o.place ≤ 15)
TellsFirst slots None = (s : Slot) (rest : List Slot) → slots ≡ s ∷ rest → 15 < extent s.place []
