use Rattle.std.proofs.Common.{◌≡◌, drop}
use Rattle.sl_decode_meaning.specs.Actions.{own}
use Rattle.sl_decode_meaning.specs.Outcomes.{in_turn}
use Rattle.sl_decode_plan.specs.Steps.{late_step}
use Rattle.sl_decode_plan.specs.Values.{site_of}
use Rattle.sl_decode.proofs.late.tell_row.Given as goal

abbrev pub invariant-steps : goal.invariant-steps
invariant-steps l =
    in_turn (late_step l.t (site_of l.scope)) (drop l.index l.steps) (own l.rest l.values.items l.commits.items)
    ≡ in_turn (late_step l.t (site_of l.scope)) l.steps (own l.notes l.initial.values.items l.initial.commits.items)
