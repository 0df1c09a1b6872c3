-- law: what a point picks is the choice.
use Rattle.std.specs.Prelude.{◌≡◌, ℕ, List, length}
use Rattle.sl_choose.specs.Choosers.{IsPick, StandsFor}
use Rattle.sl_choose.specs.Picked.{picked}
use Rattle.sl_choose.specs.declared.chooser.Chooser.{Chooser}
use Rattle.sl_cube.specs.declared.Point.{Point}
use Rattle.sl_cube_sets.specs.Sets.{IsSettledAt}
use Rattle.sl_cube_sets.specs.Unions.{has_set}
use Rattle.sl_cube_sets.specs.declared.CubeSet.{CubeSet}

-- Where the sets are settled at a point, what it picks is their choice.
abbrev pub PicksAreChoices : Type 0
PicksAreChoices = (chooser : Chooser) (ctors : List ℕ) (sets : List CubeSet) (p : Point)
    → StandsFor chooser ctors sets → length ctors ≡ length sets → IsSettledAt has_set sets p
    → IsPick ctors sets p (picked chooser p)
