-- step: marks of sets that are the choice at some point.
use Rattle.std.specs.Prelude.{◌≡◌, ℕ, ◌<◌, ◌⊎◌, List, length, Option, Some, Bool, true, slice_get}
use Rattle.sl_cube.specs.declared.Cube.{Cube}
use Rattle.sl_cube.specs.declared.Point.{Point}
use Rattle.sl_cube.specs.Points.{InRange, IsIn}
use Rattle.sl_cube_marks.specs.Rests.{IsThere}
use Rattle.sl_cube_marks.specs.declared.narrowing.Rest.{Rest}
use Rattle.sl_cube_sets.specs.Sets.{IsChoice}
use Rattle.sl_cube_sets.specs.Unions.{has_set}
use Rattle.sl_cube_sets.specs.declared.CubeSet.{CubeSet}

-- There is a mark for each set, and each set that has its mark is the choice at some point.
pub record AreChosen (sets : List CubeSet) (marks : List Bool) : Type 0 where
  pub counted : length marks ≡ length sets
  pub chosen : (i : ℕ) → slice_get marks i ≡ Some true → (p : Point) × InRange p × IsChoice has_set sets p i

-- Each set that is there at some point has its mark.
abbrev pub AreMarked : List Rest → List Bool → Type 0
AreMarked left marks = (p : Point) (i : ℕ) → IsThere left p i → slice_get marks i ≡ Some true

-- The set that is told, if any, has got its mark, and each other one has it as before.
pub record IsMarked (old : List Bool) (found : Option ℕ) (new : List Bool) : Type 0 where
  pub counted : length new ≡ length old
  pub stays : (i : ℕ) → slice_get old i ≡ Some true → slice_get new i ≡ Some true
  pub only : (i : ℕ) → slice_get new i ≡ Some true → (slice_get old i ≡ Some true) ⊎ (found ≡ Some i)
  pub marked : (i : ℕ) → found ≡ Some i → i < length old → slice_get new i ≡ Some true

-- No mark is lost.
abbrev pub Keeps : List Bool → List Bool → Type 0
Keeps old new = (i : ℕ) → slice_get old i ≡ Some true → slice_get new i ≡ Some true

-- Each set that is the choice at some point of the region has its mark.
abbrev pub MarksAll : List CubeSet → Cube → List Bool → Type 0
MarksAll sets region marks = (p : Point) → InRange p → IsIn p region → (i : ℕ) → IsChoice has_set sets p i
    → slice_get marks i ≡ Some true
