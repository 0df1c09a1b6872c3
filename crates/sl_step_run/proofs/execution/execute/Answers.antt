use Rattle.std.proofs.Common.{[], ap, subst}
use Rattle.sl_decode_contexts.specs.Runs.{Stands}
use Rattle.sl_list_instructions.specs.Listing.{Image}
use Rattle.sl_step_run.proofs.RunLemmas.{executes_by}
use Rattle.sl_step_run.specs.Running.{opened}
use Rattle.sl_step.specs.Stands.{choice_in}
use Rattle.sl_step_run.proofs.execution.execute.Goals as goal

pub returns : goal.returns
returns g c =
    let i = c.args.image.now in
    let x = c.in_ok-stepper.stepper in
    executes_by c.args.compiled.now x.compiled.now c.in_ok-stepper.ensures.compiled i c.args.steps
    (g.R.Runner.count c.args.runner.now) (g.R.Runner.count c.run_steps.new.runner)
    (record { machine = c.run_steps.new.machine; ran = c.in_ok-ran.ran; fault = c.in_ok-ran.fault })
    (choice_in x) c.in_ok-stepper.ensures.stands.chooses
    (c.in_ok-ran.ensures.runs i.start (opened c.args.compiled.now.bound.tables i)
    (record {
      memory = c.in_ok-state.ensures.memory;
      counter = ap (λ (x : Image). x.base) c.image.view_is;
      contexts = subst (λ (x : Image). Stands c.new-contexts.result x.start []) c.image.view_is c.new-contexts.ensures;
    }))
    c.in_ok-ran.ensures.fits
