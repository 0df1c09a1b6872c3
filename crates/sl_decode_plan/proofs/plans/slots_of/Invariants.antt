use Rattle.std.proofs.Common.{◌≡◌, ◌++◌, drop, map}
use Rattle.sl_decode_meaning.specs.Places.{table_operands}
use Rattle.sl_decode_leaves.specs.Extents.{leaves_at}
use Rattle.sl_decode_plan.specs.Plans.{done_slot, slot_by}
use Rattle.sl_decode_plan.proofs.plans.slots_of.Given as goal

abbrev pub invariant-operands : goal.invariant-operands
invariant-operands l =
    map done_slot l.all.items ++ map (slot_by (λ lengths. leaves_at lengths l.leaves)) (table_operands (drop l.index l.operands))
    ≡ map (slot_by (λ lengths. leaves_at lengths l.leaves)) (table_operands l.operands)
