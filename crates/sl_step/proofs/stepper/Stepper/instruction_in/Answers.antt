use Rattle.std.proofs.Common.{ℕ, List, subst}
use Rattle.std.specs.Prelude.{IfErr, IfOk}
use Rattle.sl_step.specs.Kept.{IsReadAs}
use Rattle.sl_step.specs.Stages.{IsUnread}
use Rattle.sl_step.specs.Stands.{choice_in, specification_in}
use Rattle.sl_step.proofs.stepper.Stepper.instruction_in.Goals as goal

pub returns-clause-read : goal.returns-clause-read
returns-clause-read c =
    let x = c.args.self.now in
    subst (λ (bytes : List ℕ). IfOk c.instruction.result (λ i. IsReadAs (specification_in x) (choice_in x) bytes c.args.address c.args.context i.value))
    c.window_at-window.ensures c.instruction.ensures.read

pub returns-clause-unread : goal.returns-clause-unread
returns-clause-unread c =
    let x = c.args.self.now in
    subst (λ (bytes : List ℕ). IfErr c.instruction.result (IsUnread (specification_in x) (choice_in x) bytes c.args.address c.args.context))
    c.window_at-window.ensures c.instruction.ensures.unread
