use Rattle.sl_ast.specs.Views.{action_of, actions_of}
use Rattle.sl_spec_rules.proofs.Seen.{below_map, past_map, seen_map}
use Rattle.sl_spec_actions.specs.Stands.{stands_of}
use Rattle.sl_spec_actions.proofs.LevelLemmas.{stays_begins, stays_ends, stays_goes}
use Rattle.sl_spec_actions.proofs.actions.add_all_judged.Goals as goal

pub actions-init : goal.actions-init
actions-init c = stays_begins c.args.all.now c.args.t.now (stands_of c.args.stands.now) c.args.judged.now

pub actions-preserved : goal.actions-preserved
actions-preserved c =
    let actions = c.args.actions.now in
    let i = c.actions.index in
    let a = c.index-actions-index.result in
    stays_goes c.args.all.now c.args.t.now (stands_of c.args.stands.now) (actions_of actions) i (action_of a) c.args.judged.now c.actions.judged c.add_judged.new.judged
    (below_map action_of actions i c.actions-test.true) (seen_map action_of actions i a c.actions-test.true c.index-actions-index.is) c.in_ok-add_judged.ensures c.actions.invariant

pub returns : goal.returns
returns c =
    stays_ends c.args.all.now c.args.t.now (stands_of c.args.stands.now) (actions_of c.args.actions.now) c.actions.index c.args.judged.now c.actions.judged
    (past_map action_of c.args.actions.now c.actions.index c.actions-test.false) c.actions.invariant
