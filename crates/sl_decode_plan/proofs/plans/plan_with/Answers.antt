use Rattle.sl_decode_plan.proofs.plans.plan_with.Goals as goal

pub returns : goal.returns
returns c = c.in_ok-plan.ensures c.args.t.now _ _ c.in_ok-whole.ensures c.in_ok-steps.ensures
