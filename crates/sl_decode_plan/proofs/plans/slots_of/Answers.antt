use Rattle.std.proofs.Common.{map, sym, ◌∙◌}
use Rattle.sl_decode_leaves.specs.Extents.{leaves_at}
use Rattle.sl_decode_plan.specs.Plans.{done_slot, slot_by}
use Rattle.sl_decode_plan.proofs.MeaningLemmas.{operand_next, operands_end}
use Rattle.sl_decode_plan.proofs.plans.slots_of.Goals as goal

pub operands-preserved : goal.operands-preserved
operands-preserved c =
    operand_next (slot_by (λ lengths. leaves_at lengths c.args.leaves.now)) c.args.operands.now c.operands.index (map done_slot c.operands.all.items)
    c.index-operands-index.result (map done_slot c.add_slot.new.all.items) c.operands-test.true c.index-operands-index.is c.in_ok-add_slot.ensures
    ∙ c.operands.invariant

pub returns : goal.returns
returns c =
    sym (operands_end (slot_by (λ lengths. leaves_at lengths c.args.leaves.now)) c.args.operands.now c.operands.index (map done_slot c.operands.all.items)
    c.operands-test.false) ∙ c.operands.invariant
