use Rattle.std.proofs.Common.{ap, sym, ◌∙◌}
use Rattle.std.specs.Prelude.{is_some}
use Rattle.sl_decode_plan.proofs.UseLemmas.{no_place}
use Rattle.sl_spec.specs.Tables.{Field}
use Rattle.sl_decode_plan.proofs.uses.is_in_token.Goals as goal

pub returns-in-Some : goal.returns-in-Some
returns-in-Some c = λ none bytes at other context.
    no_place c.args.t.now c.args.index _ bytes at other context c.in-Some.ensures
    (sym (ap (λ (f : Field). is_some f.token) c.of.view_is) ∙ sym c.is_some.ensures ∙ none)

pub returns-in-None : goal.returns-in-None
returns-in-None c = λ none bytes at other context.
    no_place c.args.t.now c.args.index _ bytes at other context c.in-None.ensures none
