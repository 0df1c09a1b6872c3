use Rattle.sl_spec_actions.specs.ActionRules.{is_early}
use Rattle.sl_spec_actions.specs.Pending.{none_stands}
use Rattle.sl_spec_actions.specs.Standing.{Standing}
use Rattle.sl_spec_actions.specs.JoinedStanding.{joined}
use Rattle.sl_spec_actions.specs.Stands.{stands_of}
use Rattle.std.specs.Prelude.{map}
use Rattle.sl_spec_actions.proofs.PendingLemmas.{IsTested}
use Rattle.sl_spec_actions.proofs.rules.use_names_early.Given as goal

abbrev pub invariant-names : goal.invariant-names
invariant-names l = (inside : Standing) → IsTested (is_early (joined (stands_of l.stands) inside) l.before) (none_stands l.initial.early inside.behind_table) (map (λ n. n.now) l.names)
    (none_stands l.early inside.behind_table) l.index
