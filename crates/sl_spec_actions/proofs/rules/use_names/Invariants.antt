use Rattle.sl_spec_actions.specs.ActionRules.{is_usable}
use Rattle.sl_spec_actions.specs.Pending.{all_stand}
use Rattle.sl_spec_actions.specs.Standing.{Standing}
use Rattle.sl_spec_actions.specs.JoinedStanding.{joined}
use Rattle.sl_spec_actions.specs.Stands.{stands_of}
use Rattle.std.specs.Prelude.{map}
use Rattle.sl_spec_actions.proofs.PendingLemmas.{IsTested}
use Rattle.sl_spec_actions.proofs.rules.use_names.Given as goal

abbrev pub invariant-names : goal.invariant-names
invariant-names l = (inside : Standing) → IsTested (is_usable l.t (joined (stands_of l.stands) inside) l.before) (all_stand l.initial.known inside.anywhere) (map (λ n. n.now) l.names)
    (all_stand l.known inside.anywhere) l.index
