use Rattle.std.specs.Prelude.{map}
use Rattle.sl_bind.specs.Steps.{IsMadeForAll, constructor_item}
use Rattle.sl_bind.specs.Verdict.{placed_step}
use Rattle.sl_spec_rules.proofs.Runs.{IsRun}
use Rattle.sl_bind.proofs.items.take_constructors.Given as goal

abbrev pub invariant-constructors : goal.invariant-constructors
invariant-constructors l = IsRun (placed_step l.whole) l.initial.progress (map constructor_item l.all) l.progress l.index
    × IsMadeForAll l.whole.tables l.progress.known.tables l.all l.made
