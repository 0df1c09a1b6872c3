-- view: what is told of tables by their sets.
use Rattle.std.specs.Prelude.{◌≡◌, ℕ, ◌<◌, ◌⊎◌, List, length, Option, Some, Bool, true, slice_get}
use Rattle.sl_ast.specs.Trees.{Constructor}
use Rattle.sl_ast.specs.Unfolding.{Placed}
use Rattle.sl_conflict.specs.Kept.{HasChoices}
use Rattle.sl_conflict.specs.declared.table_sets.TableSets.{TableSets}
use Rattle.sl_cube.specs.Points.{InRange}
use Rattle.sl_cube.specs.declared.Point.{Point}
use Rattle.sl_cube_sets.specs.Sets.{HasAt, IsChoice, IsLeastOf, IsUnmatched}
use Rattle.sl_cube_sets.specs.Unions.{has_set}
use Rattle.sl_gap_tables.specs.Gaps.{IsChosen}
use Rattle.sl_spec.specs.declared.tables.Tables.{Tables}

-- One of the sets has the point.
abbrev pub HasSome : TableSets → Point → Type 0
HasSome kept p = (i : ℕ) × HasAt has_set kept.sets.items p i

-- the least point that no set has, or that there is none
abbrev pub TellsUnmatched : TableSets → Option Point → Type 0
TellsUnmatched kept told = IsLeastOf (IsUnmatched has_set kept.sets.items) told

-- So of each of some first tables.
pub record AreUnmatched (kept : List TableSets) (told : List (Option Point)) (count : ℕ) : Type 0 where
  pub counted : length told ≡ count
  pub each : (table : ℕ) (k : TableSets) (one : Option Point) → slice_get kept table ≡ Some k
      → slice_get told table ≡ Some one → TellsUnmatched k one

-- Each table is settled.
abbrev pub AreSettled : List TableSets → Type 0
AreSettled kept = (table : ℕ) (k : TableSets) → slice_get kept table ≡ Some k → HasChoices k

-- The set at an index of the table is the choice at the point, and this is its constructor.
pub record IsChosenAt (k : TableSets) (number : ℕ) (p : Point) : Type 0 where
  pub place : ℕ
  pub ctor_is : slice_get k.ctors.items place ≡ Some number
  pub choice : IsChoice has_set k.sets.items p place

-- So in one of the tables.
abbrev pub IsChosenIn : List TableSets → ℕ → Point → Type 0
IsChosenIn kept number p = (table : ℕ) × (k : TableSets) × (slice_get kept table ≡ Some k) × IsChosenAt k number p

-- The constructor has got its mark, if it is to have one, and each other one has it as before.
pub record IsMarkedIf (old : List Bool) (ctor : ℕ) (chosen : Bool) (new : List Bool) : Type 0 where
  pub counted : length new ≡ length old
  pub stays : (i : ℕ) → slice_get old i ≡ Some true → slice_get new i ≡ Some true
  pub only : (i : ℕ) → slice_get new i ≡ Some true
      → (slice_get old i ≡ Some true) ⊎ ((ctor ≡ i) × (chosen ≡ true))
  pub marked : chosen ≡ true → ctor < length old → slice_get new ctor ≡ Some true

-- Those of the table's constructors have got their marks that are chosen at some point, and each other one has it as
-- before.
pub record MarksTable (k : TableSets) (old new : List Bool) : Type 0 where
  pub stays : (i : ℕ) → slice_get old i ≡ Some true → slice_get new i ≡ Some true
  pub only : (i : ℕ) → slice_get new i ≡ Some true
      → (slice_get old i ≡ Some true) ⊎ ((p : Point) × InRange p × IsChosenAt k i p)
  pub all : (i : ℕ) (p : Point) → InRange p → IsChosenAt k i p → i < length old → slice_get new i ≡ Some true

-- Each constructor has its mark exactly where it is chosen at some point.
pub record TellChosen (t : Tables) (cs : List (Placed Constructor)) (marks : List Bool) : Type 0 where
  pub counted : length marks ≡ length t.constructors
  pub chosen : (number : ℕ) → slice_get marks number ≡ Some true
      → (p : Point) × InRange p × IsChosen t cs number p
  pub all : (number : ℕ) (p : Point) → InRange p → IsChosen t cs number p → slice_get marks number ≡ Some true
