use Rattle.std.proofs.Common.{subst, sym}
use Rattle.sl_ast.specs.Views.{action_of, expression_of, operand_of_address}
use Rattle.sl_ast.specs.declared.patterns.Action.{Action}
use Rattle.sl_decode_plan.specs.Uses.{IsSameAction}
use Rattle.sl_decode_plan.proofs.UseLemmas.{assign_same, global_same, ok_as, uses_both}
use Rattle.sl_decode_plan.proofs.uses.use_action.Goals as goal

pub returns-in_ok-use_name-in-Assign : goal.returns-in_ok-use_name-in-Assign
returns-in_ok-use_name-in-Assign c = ok_as c.use_expression.result c.use_expression.ensures (λ used.
    let t = c.args.t.now in
    let os = c.args.operands.now in
    let ls = c.args.leaves.now in
    uses_both t os ls c.args.all.now c.use_name.new.all c.use_expression.new.all _ _ _ c.in_ok-use_name-in-Assign.ensures used
    (λ those ms same value. subst (λ (a : Action). IsSameAction t os ls (action_of a) those ms) (sym c.in-Assign.is)
    (assign_same t os ls those ms c.in-Assign.name.now (expression_of c.in-Assign.e) same value)))

pub returns-in_ok-use_name-in-GlobalSet : goal.returns-in_ok-use_name-in-GlobalSet
returns-in_ok-use_name-in-GlobalSet c = ok_as c.use_address.result c.use_address.ensures (λ used.
    let t = c.args.t.now in
    let os = c.args.operands.now in
    let ls = c.args.leaves.now in
    uses_both t os ls c.args.all.now c.use_name-in-GlobalSet.new.all c.use_address.new.all _ _ _ c.in_ok-use_name-in-GlobalSet.ensures used
    (λ those ms same address. subst (λ (a : Action). IsSameAction t os ls (action_of a) those ms) (sym c.in-GlobalSet.is)
    (global_same t os ls those ms c.in-GlobalSet.name.now (operand_of_address c.in-GlobalSet.to) same address)))
