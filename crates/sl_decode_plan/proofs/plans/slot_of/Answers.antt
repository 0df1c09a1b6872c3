use Rattle.sl_decode_plan.proofs.MeaningLemmas.{slots_alike}
use Rattle.sl_decode_plan.proofs.plans.slot_of.Goals as goal

pub returns : goal.returns
returns c = slots_alike _ _ _ _ c.table_in.ensures c.in_ok-place.ensures
