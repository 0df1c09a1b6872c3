use Rattle.sl_spec_actions.proofs.Folds.{fold_ends}
use Rattle.sl_spec_actions.proofs.StandingLemmas.{all_stand}
use Rattle.sl_spec_actions.specs.PatternNames.{with_part}
use Rattle.sl_spec_actions.proofs.pattern_names.names_of.Goals as goal

pub returns : goal.returns
returns c = all_stand _ c.parts.names c.args.parts.now c.new-names.ensures
    (fold_ends with_part _ c.args.parts.now c.parts.names c.parts.index c.parts-test.false c.parts.invariant)
