use Rattle.std.specs.Prelude.{◌≡◌, drop}
use Rattle.std.specs.List.{list_any}
use Rattle.sl_spec_actions.specs.Levels.{is_unwanted}
use Rattle.sl_spec_actions.proofs.levels.any_unwanted.Given as goal

abbrev pub invariant-names : goal.invariant-names
invariant-names l = list_any (is_unwanted l.levels) (drop l.index l.names) ≡ list_any (is_unwanted l.levels) l.names
