use Rattle.sl_ast.specs.Views.{action_of, actions_of}
use Rattle.sl_decode_meaning.specs.Actions.{tell}
use Rattle.sl_decode_leaves.specs.Extents.{leaves_at}
use Rattle.sl_decode_plan.specs.Steps.{late_step}
use Rattle.sl_decode_leaves.proofs.RunLemmas.{all_done, went_on_at}
use Rattle.sl_decode_plan.proofs.late.late_steps.Goals as goal

pub actions-preserved : goal.actions-preserved
actions-preserved c = λ s.
    went_on_at (tell c.args.t.now c.args.operands.now (leaves_at s.lengths c.args.leaves.now) s) (late_step c.args.t.now s) (actions_of c.args.actions.now) action_of c.args.actions.now c.actions.index
    c.index-actions-index.result c.index-actions-index.result c.actions.all.items c.add_step.new.all.items c.in_ok-step.step c.actions-test.true c.index-actions-index.is (c.in_ok-step.ensures s)
    c.in_ok-add_step.ensures (c.actions.invariant s)

pub returns : goal.returns
returns c = λ s.
    all_done (tell c.args.t.now c.args.operands.now (leaves_at s.lengths c.args.leaves.now) s) (late_step c.args.t.now s) (actions_of c.args.actions.now) action_of c.args.actions.now c.actions.index
    c.actions.all.items c.actions-test.false (c.actions.invariant s)
