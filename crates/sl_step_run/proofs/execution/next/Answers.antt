use Rattle.sl_step_run.proofs.StepsLemmas.{stopped_by_error, went_on_by}
use Rattle.sl_step.specs.Stands.{choice_in, specification_in}
use Rattle.sl_step_run.proofs.execution.next.Goals as goal

pub returns-in_default-clause-steps : goal.returns-in_default-clause-steps
returns-in_default-clause-steps g c = λ start m seen.
    went_on_by (specification_in c.args.stepper.now) (choice_in c.args.stepper.now) start m c.step.new.machine
    (g.R.Runner.count c.args.runner.now) (g.R.Runner.count c.step.new.runner) c.step.result c.in_default.ensures.value
    (c.step.ensures.steps start m seen)

pub returns-in-Some-fault_in-clause-steps : goal.returns-in-Some-fault_in-clause-steps
returns-in-Some-fault_in-clause-steps g c = λ start m seen.
    stopped_by_error (specification_in c.args.stepper.now) (choice_in c.args.stepper.now) start m c.step.new.machine
    (g.R.Runner.count c.args.runner.now)
    (g.R.Runner.count c.step.new.runner) c.step.result c.in-Some.error c.in-Some-fault_in.fault
    c.in-Some.ensures.value c.in-Some-fault_in.ensures (c.step.ensures.steps start m seen)
