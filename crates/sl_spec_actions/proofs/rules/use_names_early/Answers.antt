use Rattle.std.specs.Prelude.{map}
use Rattle.sl_spec_rules.proofs.Seen.{below_map, past_map, read_map}
use Rattle.sl_spec_actions.specs.ActionRules.{is_early}
use Rattle.sl_spec_actions.specs.JoinedStanding.{joined}
use Rattle.sl_spec_actions.specs.Stands.{stands_of}
use Rattle.sl_spec_actions.proofs.PendingLemmas.{test_ends, test_goes}
use Rattle.sl_spec_actions.proofs.rules.use_names_early.Goals as goal

pub names-preserved : goal.names-preserved
names-preserved c = λ inside.
    let names = c.args.names.now in
    let i = c.names.index in
    test_goes (is_early (joined (stands_of c.args.stands.now) inside) c.args.before.now) _ (map (λ n. n.now) names) _ _ i _
    (below_map (λ n. n.now) names i c.names-test.true) (read_map (λ n. n.now) names i _ c.names-test.true) (c.in_ok-use_early_name.ensures inside) (c.names.invariant inside)

pub returns : goal.returns
returns c = λ inside.
    test_ends (is_early (joined (stands_of c.args.stands.now) inside) c.args.before.now) _ (map (λ n. n.now) c.args.names.now) _ c.names.index
    (past_map (λ n. n.now) c.args.names.now c.names.index c.names-test.false) (c.names.invariant inside)
