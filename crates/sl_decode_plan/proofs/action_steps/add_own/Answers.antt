use Rattle.std.proofs.Common.{List, Option, Vec, subst, sym}
use Rattle.std.specs.Option.{option_map}
use Rattle.std.specs.declared.alloc.Global.{Global}
use Rattle.sl_ast.specs.Unfolding.{written}
use Rattle.sl_ast.specs.Views.{actions_of, constructor_of}
use Rattle.sl_ast.specs.declared.patterns.Action as tree
use Rattle.sl_decode_plan.specs.Rights.{AreSteps}
use Rattle.sl_decode_plan.proofs.StepLemmas.{adds_these}
use Rattle.sl_decode_plan.proofs.action_steps.add_own.Goals as goal

pub returns : goal.returns
returns c =
    let t = c.args.t.now in
    let os = c.args.operands.now in
    let ls = c.args.leaves.now in
    let steps = c.in_ok-steps.steps in
    let are = subst (λ (as' : List tree.Action). AreSteps t os ls (actions_of as') steps) c.as_slice.ensures.value c.in_ok-steps.ensures in
    adds_these t os ls (written (constructor_of c.args.own.now).actions) steps c.args.all.now c.add.new.self c.in_ok-add.ensures.early c.in_ok-add.ensures.late
    (subst (λ (o : Option (Vec tree.Action Global)). AreSteps t os ls (written (option_map (λ as'. actions_of as'.items) o)) steps) (sym c.in-Some.is) are)
