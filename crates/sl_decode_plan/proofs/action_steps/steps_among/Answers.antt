use Rattle.std.proofs.Common.{List, subst, sym}
use Rattle.sl_decode_plan.specs.Open.{AreStepsOf}
use Rattle.sl_decode_plan.specs.declared.open_blocks.OpenBlock.{OpenBlock}
use Rattle.sl_spec.specs.declared.unfolded.Around.{Around}
use Rattle.sl_decode_plan.proofs.action_steps.steps_among.Goals as goal

pub steps_of-requires : goal.steps_of-requires
steps_of-requires c =
    let t = c.args.t.now in
    let os = c.args.operands.now in
    let ls = c.args.leaves.now in
    subst (λ (xs : List OpenBlock). AreStepsOf t os ls xs c.args.of.now.heads.items) (sym c.open_blocks.ensures)
    (subst (λ (as' : List Around). AreStepsOf t os ls c.enter.new.self as') c.as_slice-heads.ensures.value c.in_ok-enter.ensures.steps)
