use Rattle.sl_spec_actions.proofs.Folds.{IsFolded}
use Rattle.sl_spec_actions.proofs.Arguments.{with_argument}
use Rattle.sl_spec_actions.proofs.names_used.+add_names.Given as goal

abbrev pub invariant-given : goal.invariant-given
invariant-given l = IsFolded with_argument l.initial.names l.given l.names l.inner-index
