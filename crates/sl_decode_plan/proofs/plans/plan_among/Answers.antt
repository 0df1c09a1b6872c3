use Rattle.sl_decode_plan.proofs.plans.plan_among.Goals as goal

pub returns-clause-plan : goal.returns-clause-plan
returns-clause-plan c = c.in_ok-plan.ensures c.args.t.now _ _ c.in_ok-whole.ensures.whole c.in_ok-actions.ensures.steps
