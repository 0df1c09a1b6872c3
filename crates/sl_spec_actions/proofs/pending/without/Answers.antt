use Rattle.std.proofs.Common.{◌||◌, arith, true}
use Rattle.sl_spec_rules.specs.Names.{is_among}
use Rattle.sl_spec_actions.proofs.PendingLemmas.{test_ends, test_goes}
use Rattle.sl_spec_actions.proofs.pending.without.Goals as goal

pub names-preserved : goal.names-preserved
names-preserved c f =
    test_goes (λ n. is_among c.args.those.now n || f n) true c.args.names.now _ _ c.names.index _ (omega (arith, c.len-index-end.ensures, c.names-test.true)) c.name_at-name.ensures (c.in_ok-add_unless.ensures f) (c.names.invariant f)

pub returns : goal.returns
returns c f = test_ends (λ n. is_among c.args.those.now n || f n) true c.args.names.now _ c.names.index (omega (arith, c.len-index-end.ensures, c.names-test.false)) (c.names.invariant f)
