use Rattle.std.proofs.Common.{◌≡◌, drop}
use Rattle.sl_decode_meaning.specs.Actions.{own}
use Rattle.sl_decode_meaning.specs.Outcomes.{in_turn}
use Rattle.sl_decode_plan.specs.Rows.{all_steps}
use Rattle.sl_decode_plan.specs.Steps.{late_step}
use Rattle.sl_decode_plan.specs.Values.{site_of}
use Rattle.sl_decode.proofs.late.tell_all.Given as goal

abbrev pub invariant-rows : goal.invariant-rows
invariant-rows l =
    in_turn (late_step l.t (site_of l.scope)) (all_steps (drop l.index l.rows)) (own l.left l.values.items l.commits.items)
    ≡ in_turn (late_step l.t (site_of l.scope)) (all_steps l.rows) (own l.notes l.initial.values.items l.initial.commits.items)
