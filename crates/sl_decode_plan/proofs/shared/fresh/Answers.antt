use Rattle.std.proofs.Common.{ap, ◌∙◌}
use Rattle.sl_decode_meaning.specs.Outcomes.{in_turn}
use Rattle.sl_decode_plan.specs.Steps.{early_step, late_step}
use Rattle.sl_decode_plan.proofs.shared.fresh.Goals as goal

pub returns : goal.returns
returns c = record {
  early = λ s x. ap (λ v. in_turn (early_step c.args.t.now s) v.items x) c.in_ok-early-2.ensures.ok ∙ c.in_ok-early.ensures s x;
  late = λ s x. ap (λ v. in_turn (late_step c.args.t.now s) v.items x) c.in_ok-new.ensures.ok ∙ c.in_ok-late.ensures s x;
}
