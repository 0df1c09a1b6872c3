use Rattle.std.specs.Prelude.{map}
use Rattle.sl_ast.specs.Views.{head_of}
use Rattle.sl_spec.specs.Numbers.{KeepsMade}
use Rattle.sl_spec_actions.proofs.Folds.{IsFolded}
use Rattle.sl_spec_constructors.specs.Facts.{AreOfHead}
use Rattle.sl_spec_constructors.specs.FactSteps.{with_head}
use Rattle.sl_spec_constructors.proofs.facts.facts_of_unfolded.Given as goal

abbrev pub invariant-heads : goal.invariant-heads
invariant-heads l = IsFolded (with_head l.fields l.tables) l.initial.all (map (λ a. head_of a.head.now) l.heads) l.all l.index
    × KeepsMade (AreOfHead l.fields l.tables) l.heads l.initial.made l.made
