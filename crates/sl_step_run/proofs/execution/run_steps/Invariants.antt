use Rattle.sl_step_run.proofs.StepsLemmas.{Reaches}
use Rattle.sl_step.specs.Kept.{AreKept}
use Rattle.sl_step.specs.Machines.{Fits, IsSeen}
use Rattle.sl_step.specs.Stands.{choice_in, specification_in}
use Rattle.sl_step_meaning.specs.Steps.{Machine}
use Rattle.std.proofs.Common.{ℕ}
use Rattle.sl_step_run.proofs.execution.run_steps.Given as goal

abbrev pub invariant-steps : goal.invariant-steps
invariant-steps g l = record {
  kept : AreKept (specification_in l.stepper) (choice_in l.stepper) l.buffers;
  fits : Fits (specification_in l.stepper).tables l.machine;
  reaches : (start : ℕ) (m : Machine) → IsSeen start l.initial.machine m
      → Reaches (specification_in l.stepper) (choice_in l.stepper) start m l.machine
      (g.R.Runner.count l.initial.runner) (g.R.Runner.count l.runner) l.ran;
}
