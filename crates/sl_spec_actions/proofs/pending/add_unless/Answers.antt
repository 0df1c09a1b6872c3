use Rattle.std.proofs.Common.{sym, ◌∙◌}
use Rattle.sl_spec_actions.proofs.PendingLemmas.{left_more}
use Rattle.sl_spec_actions.proofs.pending.add_unless.Goals as goal

pub returns-in_ok-add_once : goal.returns-in_ok-add_once
returns-in_ok-add_once c f =
    left_more c.args.those.now c.args.names.now c.add_once.new.names c.args.name.now f (sym c.has.ensures ∙ c.if-not-has.true) c.in_ok-add_once.ensures
