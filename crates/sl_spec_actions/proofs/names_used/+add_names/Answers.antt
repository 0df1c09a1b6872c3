use Rattle.std.proofs.Common.{◌≤◌, length, ap, ◌∙◌, fold, arith, List}
use Rattle.sl_spec_rules.specs.Names.{Name}
use Rattle.sl_spec_actions.proofs.Folds.{fold_goes, fold_ends}
use Rattle.sl_spec_actions.proofs.Arguments.{with_argument, call_names}
use Rattle.sl_spec_actions.proofs.names_used.+add_names.Goals as goal

pub given-preserved : goal.given-preserved
given-preserved t c = fold_goes with_argument c.push-in-Call.new.self c.as_slice-given.result.now c.given.names c.add_names-in-given.new.names c.given.inner-index c.inner-item.result
    c.given-test.true c.inner-item.is c.in_ok-add_names-in-Call.ensures c.given.invariant

pub returns-after-given : goal.returns-after-given
returns-after-given t c =
    let end : length c.as_slice-given.result.now ≤ c.given.inner-index = omega (arith, c.given-test.false) in
    fold_ends with_argument c.push-in-Call.new.self c.as_slice-given.result.now c.given.names c.given.inner-index end c.given.invariant
    ∙ ap (λ (ns : List Name). fold with_argument ns c.as_slice-given.result.now) c.in_ok-push-in-Call.ensures
    ∙ call_names c.args.names.now c.args.e.now c.in-Call.name c.in-Call.given c.as_slice-given.result.now c.in-Call.is c.as_slice-given.ensures.value
