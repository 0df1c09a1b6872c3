use Rattle.sl_spec_actions.proofs.Folds.{IsFolded}
use Rattle.sl_spec_actions.specs.PatternNames.{with_part}
use Rattle.sl_spec_actions.proofs.pattern_names.names_of.Given as goal

abbrev pub invariant-parts : goal.invariant-parts
invariant-parts l = IsFolded with_part l.initial.names l.parts l.names l.index
