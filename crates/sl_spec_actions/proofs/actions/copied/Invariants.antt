use Rattle.sl_spec_actions.proofs.Folds.{IsFolded}
use Rattle.sl_spec_actions.specs.ActionNames.{with_name}
use Rattle.sl_spec_actions.proofs.actions.copied.Given as goal

abbrev pub invariant-names : goal.invariant-names
invariant-names l = IsFolded with_name l.initial.copy l.names l.copy l.index
