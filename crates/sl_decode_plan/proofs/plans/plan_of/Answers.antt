use Rattle.std.proofs.Common.{ap, ◌∙◌, refl, sym}
use Rattle.sl_decode_meaning.specs.Actions.{look, tell}
use Rattle.sl_decode_meaning.specs.Outcomes.{◌>>=◌, in_turn}
use Rattle.sl_decode_leaves.specs.Extents.{extent, leaves_at}
use Rattle.sl_decode_plan.specs.Steps.{late_step}
use Rattle.sl_decode_plan.proofs.MeaningLemmas.{meanings_alike, said_as}
use Rattle.sl_decode_leaves.proofs.RunLemmas.{bind_alike}
use Rattle.sl_decode_plan.proofs.plans.plan_of.Goals as goal

pub returns : goal.returns
returns c = λ t p as' whole steps.
    let os = c.args.operands.now in
    let ls = c.args.whole.leaves in
    let late = c.args.steps.late in
    meanings_alike _ _ _ _ _ _ _ _ (λ s x. steps.early s x) c.in_ok-slots.ensures (λ lengths. refl)
    (λ s x. ap (λ r. r >>= in_turn (late_step t s) late) (whole.looks s x ∙ sym (ap (λ xs. in_turn (look t os s) xs x) (whole.leaves s.lengths)))
    ∙ bind_alike (in_turn (look t os s) (leaves_at s.lengths ls) x) (in_turn (late_step t s) late)
    (in_turn (tell t os (leaves_at s.lengths ls) s) as') (steps.late s))
    ∙ said_as t os p as' as' (λ lengths. leaves_at lengths ls) (λ lengths. extent c.args.whole.length lengths) (λ lengths. whole.leaves lengths) (λ lengths. whole.length lengths) refl
