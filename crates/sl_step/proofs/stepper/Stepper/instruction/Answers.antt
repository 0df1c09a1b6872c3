use Rattle.std.proofs.Common.{◌<◌, length, subst, sym}
use Rattle.sl_step.specs.Kept.{IsKept}
use Rattle.sl_step.specs.Stands.{choice_in, specification_in}
use Rattle.sl_step.specs.declared.instruction.Instruction.{Instruction}
use Rattle.sl_step.proofs.stepper.Stepper.instruction.Goals as goal

pub returns-clause-kept : goal.returns-clause-kept
returns-clause-kept c =
    let s = specification_in c.args.self.now in
    let choose = choice_in c.args.self.now in
    c.keep.ensures s choose c.requires.kept
    (subst (λ (x : Instruction). length x.bytes.items < 272 → IsKept s choose x) (sym c.in-Ok-new.ensures.ok)
    c.in-Ok.ensures.read.kept)
