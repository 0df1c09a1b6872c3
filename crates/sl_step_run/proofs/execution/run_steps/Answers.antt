use Rattle.std.proofs.Common.{◌≡◌, ℕ, Option, subst, arith}
use Rattle.sl_step_run.proofs.StepsLemmas.{Reaches, begins, finished, goes_on, stopped}
use Rattle.sl_step_run.specs.Executing.{Steps, fault_of, stopped_by}
use Rattle.sl_step_run.specs.declared.fault.RunFault.{RunFault}
use Rattle.sl_step.specs.Stands.{choice_in, specification_in}
use Rattle.sl_step_run.proofs.execution.run_steps.Goals as goal

pub steps-init : goal.steps-init
steps-init g c = record {
  kept = c.in_ok-buffers.ensures (specification_in c.args.stepper.now) (choice_in c.args.stepper.now);
  fits = c.requires.fits;
  reaches =
      λ start m seen. begins (specification_in c.args.stepper.now)
      (choice_in c.args.stepper.now) start m c.args.machine.now
      (g.R.Runner.count c.args.runner.now) (g.R.Runner.small c.args.runner.now) seen;
}

pub returns-in-Some-clause-runs : goal.returns-in-Some-clause-runs
returns-in-Some-clause-runs g c = λ start m seen.
    let s = specification_in c.args.stepper.now in
    let choose = choice_in c.args.stepper.now in
    let r = c.steps.invariant.reaches start m seen in
    let here = subst
    (λ (f : Option RunFault). Steps s choose start r.now c.next.new.machine (g.R.Runner.count c.steps.runner)
    (g.R.Runner.count c.next.new.runner) (stopped_by f))
    c.in-Some.is (c.in_ok-fault.ensures.steps start r.now r.seen) in
    stopped s choose start m c.steps.machine c.next.new.machine (g.R.Runner.count c.args.runner.now)
    (g.R.Runner.count c.steps.runner) (g.R.Runner.count c.next.new.runner)
    c.args.steps c.steps.ran (fault_of c.in-Some.fault) r (omega (arith, c.steps-test.true)) here

pub steps-preserved : goal.steps-preserved
steps-preserved g c =
    let s = specification_in c.args.stepper.now in
    let choose = choice_in c.args.stepper.now in
    record {
      kept = c.next.ensures.kept;
      fits = c.next.ensures.fits;
      reaches = λ start m seen.
          let r = c.steps.invariant.reaches start m seen in
          let here = subst
          (λ (f : Option RunFault). Steps s choose start r.now c.next.new.machine (g.R.Runner.count c.steps.runner)
          (g.R.Runner.count c.next.new.runner) (stopped_by f))
          c.in_default.is (c.in_ok-fault.ensures.steps start r.now r.seen) in
          goes_on s choose start m c.steps.machine c.next.new.machine (g.R.Runner.count c.args.runner.now)
          (g.R.Runner.count c.steps.runner) (g.R.Runner.count c.next.new.runner)
          c.steps.ran r here;
    }

pub returns-clause-runs : goal.returns-clause-runs
returns-clause-runs g c = λ start m seen.
    let s = specification_in c.args.stepper.now in
    let choose = choice_in c.args.stepper.now in
    let all : c.steps.ran ≡ c.args.steps = omega (arith, c.steps-test.false, c.steps.auto.ran-end) in
    finished s choose start m c.steps.machine (g.R.Runner.count c.args.runner.now)
    (g.R.Runner.count c.steps.runner) c.args.steps
    (subst (λ (k : ℕ). Reaches s choose start m c.steps.machine (g.R.Runner.count c.args.runner.now)
    (g.R.Runner.count c.steps.runner) k) all
    (c.steps.invariant.reaches start m seen))
