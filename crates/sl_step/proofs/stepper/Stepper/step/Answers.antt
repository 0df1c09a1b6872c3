use Rattle.std.proofs.Common.{ℕ, ◌%◌, ◌≤◌, Err, refl, subst, arith}
use Rattle.sl_ast.specs.Views.{items_of}
use Rattle.sl_list_instructions.proofs.AcceptedLemmas.{aligned}
use Rattle.sl_step.proofs.StepLemmas.{off_steps, seen_holds}
use Rattle.sl_step.specs.Outcomes.{Steps}
use Rattle.sl_step.specs.Stands.{choice_in, specification_in}
use Rattle.sl_step.specs.declared.error.StepError.TheVariants.{Misaligned}
use Rattle.sl_step_meaning.specs.Steps as steps
use Rattle.sl_step.proofs.stepper.Stepper.step.Goals as goal

pub nonzero_rem-machine : goal.nonzero_rem-machine
nonzero_rem-machine g c =
    let bound = c.args.self.now.compiled.now.bound in
    let some = aligned (items_of bound.spec) bound.tables c.requires.stands.compiled.compiles in
    let is = c.from.ensures in
    omega (arith, some, is)

pub returns-then-machine-from-gt0-clause-steps : goal.returns-then-machine-from-gt0-clause-steps
returns-then-machine-from-gt0-clause-steps g c start m seen =
    let s = specification_in c.args.self.now in
    let choose = choice_in c.args.self.now in
    let old = c.args.machine.now in
    let n = g.R.Runner.count c.args.runner.now in
    seen_holds (λ (x : steps.Machine). Steps s choose start x old n n (Err Misaligned)) start old m seen
    (off_steps s choose start old m.commits (old.counter % s.tables.alignment) refl
    (subst (λ (n : ℕ). 1 ≤ old.counter % n) c.from.ensures c.if-machine-from-gt0.true) n
    (g.R.Runner.small c.args.runner.now) seen.contexts)
