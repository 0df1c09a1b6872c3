use Rattle.std.proofs.Common.{ap, sym, ◌∙◌}
use Rattle.sl_ast.specs.Unfolding.{written}
use Rattle.sl_ast.specs.Views.{actions_of, head_of}
use Rattle.sl_decode_plan.proofs.StepLemmas.{adds_none, adds_these, none_of}
use Rattle.sl_decode_plan.proofs.action_steps.add_block.Goals as goal

pub returns-then-is_empty : goal.returns-then-is_empty
returns-then-is_empty c =
    adds_none c.args.t.now c.args.operands.now c.args.leaves.now (written (head_of c.args.around.head.now).actions) c.args.all.now
    (sym c.actions_in.ensures ∙ ap actions_of (none_of c.actions_in.result.now (sym c.is_empty.ensures ∙ c.if-is_empty.true)))

pub returns : goal.returns
returns c =
    adds_these c.args.t.now c.args.operands.now c.args.leaves.now (written (head_of c.args.around.head.now).actions) c.in_ok-steps.steps c.args.all.now c.add.new.self
    c.in_ok-add.ensures.early c.in_ok-add.ensures.late c.in_ok-steps.ensures
