use Rattle.std.proofs.Common.{◌≡◌, drop, []}
use Rattle.sl_decode.specs.Inputs.{input_of}
use Rattle.sl_decode_meaning.specs.Actions.{changed}
use Rattle.sl_decode_meaning.specs.Decoding.{site_at}
use Rattle.sl_decode_meaning.specs.Outcomes.{in_turn}
use Rattle.sl_decode_plan.specs.Steps.{early_step}
use Rattle.sl_decode.proofs.decode.Decode.change.Given as goal

abbrev pub invariant-steps : goal.invariant-steps
invariant-steps g l =
    in_turn (early_step l.self.tables.now (site_at (input_of g.C.Choose.chosen l.self) l.ctor l.at [] l.context 0)) (drop l.index l.steps) (changed l.now l.notes.items)
    ≡ in_turn (early_step l.self.tables.now (site_at (input_of g.C.Choose.chosen l.self) l.ctor l.at [] l.context 0)) l.steps (changed l.context l.initial.notes.items)
