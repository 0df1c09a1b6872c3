use Rattle.std.proofs.Common.{ap, sym, ◌∙◌}
use Rattle.sl_ast.specs.Views.{action_of}
use Rattle.sl_ast.specs.declared.patterns.Action.{Action}
use Rattle.sl_decode_meaning.specs.Actions.{tell}
use Rattle.sl_decode_leaves.specs.Extents.{leaves_at}
use Rattle.sl_decode_plan.proofs.late.late_of.Goals as goal

pub returns-in_ok-step-in-Assign : goal.returns-in_ok-step-in-Assign
returns-in_ok-step-in-Assign c = λ s x.
    c.in_ok-step-in-Assign.ensures s x
    ∙ ap (λ (a : Action). tell c.args.t.now c.args.operands.now (leaves_at s.lengths c.args.leaves.now) s (action_of a) x) (sym c.in-Assign.is)

pub returns-in_ok-step-in-GlobalSet : goal.returns-in_ok-step-in-GlobalSet
returns-in_ok-step-in-GlobalSet c = λ s x.
    c.in_ok-step-in-GlobalSet.ensures s x
    ∙ ap (λ (a : Action). tell c.args.t.now c.args.operands.now (leaves_at s.lengths c.args.leaves.now) s (action_of a) x) (sym c.in-GlobalSet.is)
