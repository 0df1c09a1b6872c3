-- law: that the choice is one, and that sound tables have one.
use Rattle.std.specs.Prelude.{◌≡◌, ℕ, List}
use Rattle.sl_ast.specs.Trees.{Constructor}
use Rattle.sl_ast.specs.Unfolding.{Placed}
use Rattle.sl_decode_choices.specs.Choices.{IsChoiceOf}
use Rattle.sl_spec_constructors.specs.Listed.{AreListed}
use Rattle.sl_cube.specs.declared.Point.{Point}
use Rattle.sl_decode_meaning.specs.Choices.{Choice}
use Rattle.sl_conflict.specs.Soundness.{IsSound}
use Rattle.sl_spec.specs.declared.tables.Tables.{Tables}

-- Two choices of the same tables are one.
abbrev pub ChoiceIsOne : Type 0
ChoiceIsOne = (t : Tables) (cs : List (Placed Constructor)) (one other : Choice)
    → IsChoiceOf t cs one → IsChoiceOf t cs other → (table : ℕ) (p : Point) → one table p ≡ other table p

-- It can't be that sound tables have no choice.
abbrev pub SomeChoice : Type 0
SomeChoice = (t : Tables) (cs : List (Placed Constructor)) → AreListed t cs → IsSound t cs
    → ((choose : Choice) × IsChoiceOf t cs choose → ⊥) → ⊥
