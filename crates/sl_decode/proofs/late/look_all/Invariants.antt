use Rattle.std.proofs.Common.{◌≡◌, drop}
use Rattle.sl_decode_meaning.specs.Actions.{Own}
use Rattle.sl_decode_meaning.specs.Outcomes.{in_turn}
use Rattle.sl_decode_leaves.specs.Looks.{look_step}
use Rattle.sl_decode_plan.specs.Values.{site_of}
use Rattle.sl_decode.proofs.late.look_all.Given as goal

abbrev pub invariant-looks : goal.invariant-looks
invariant-looks l = (c : Own) →
    in_turn (look_step l.t (site_of l.scope)) (drop l.index l.looks) c ≡ in_turn (look_step l.t (site_of l.scope)) l.looks c
