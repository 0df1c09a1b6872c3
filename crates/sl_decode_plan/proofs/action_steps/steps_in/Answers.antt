use Rattle.std.proofs.Common.{subst}
use Rattle.std.specs.Option.{IfSome, option_copied}
use Rattle.sl_ast.specs.Unfolding.{written}
use Rattle.sl_ast.specs.Views.{head_of}
use Rattle.sl_decode_plan.specs.Rights.{AreSteps}
use Rattle.sl_decode_plan.proofs.StepLemmas.{copy_right}
use Rattle.sl_decode_plan.proofs.action_steps.steps_in.Goals as goal

pub returns-in_ok-steps-in-Some : goal.returns-in_ok-steps-in-Some
returns-in_ok-steps-in-Some c =
    let t = c.args.t.now in
    let os = c.args.operands.now in
    let ls = c.args.leaves.now in
    let as' = written (head_of c.args.around.head.now).actions in
    copy_right t os ls as' c.in-Some.block.now.steps c.in_ok-steps-in-Some.steps c.in_ok-steps-in-Some.ensures
    (subst (λ o. IfSome (option_copied o) (λ x. AreSteps t os ls as' x.steps)) c.in-Some.is c.requires)
