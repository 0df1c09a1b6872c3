use Rattle.std.proofs.Common.{List, sym, subst}
use Rattle.std.specs.List.{AllByRecursion}
use Rattle.sl_ast.specs.Views.{action_of}
use Rattle.sl_ast.specs.declared.patterns.Action as tree
use Rattle.sl_decode_plan.specs.Uses.{IsSameAction, ReadAsBefore}
use Rattle.sl_decode_plan.specs.declared.uses.Used.{Used}
use Rattle.sl_decode_leaves.proofs.TiedLemmas.{none_left, one_less}
use Rattle.sl_decode_plan.proofs.uses.uses_in.Goals as goal

pub actions-init : goal.actions-init
actions-init c = (
  subst (λ (xs : List Used). ReadAsBefore c.args.t.now c.args.operands.now c.args.leaves.now xs) (sym c.new-all.ensures) tt,
  λ those ms stand all. all,
)

pub actions-preserved : goal.actions-preserved
actions-preserved c =
    let as' = c.args.actions.now in (
      c.in_ok-use_action.ensures.before,
      λ those ms stand.
          let one = c.in_ok-use_action.ensures.holds those ms stand in
          let P = λ (a : tree.Action). IsSameAction c.args.t.now c.args.operands.now c.args.leaves.now (action_of a) those ms in
          one_less P as' (AllByRecursion P as') c.actions.index c.index-actions-index.result c.actions-test.true c.index-actions-index.is one.1 (c.actions.invariant.1 those ms one.0),
    )

pub returns-clause-before : goal.returns-clause-before
returns-clause-before c = c.actions.invariant.0

pub returns-clause-uses : goal.returns-clause-uses
returns-clause-uses c = λ those ms stand.
    let P = λ (a : tree.Action). IsSameAction c.args.t.now c.args.operands.now c.args.leaves.now (action_of a) those ms in
    none_left P c.args.actions.now (AllByRecursion P c.args.actions.now) c.actions.index c.actions-test.false (c.actions.invariant.1 those ms stand)
