-- view: what choosers choose.
use Rattle.std.specs.Prelude.{◌≡◌, ℕ, List, Option, Some, length, option_and_then, slice_get}
use Rattle.sl_decode_choices.specs.Choices.{in_range}
use Rattle.sl_decode_choices.specs.declared.choosers.Choosers.{Choosers}
use Rattle.sl_choose.specs.Choosers.{StandsFor}
use Rattle.sl_choose.specs.Picked.{picked}
use Rattle.sl_choose.specs.declared.chooser.Chooser.{Chooser}
use Rattle.sl_conflict.specs.declared.table_sets.TableSets.{TableSets}
use Rattle.sl_cube.specs.declared.Point.{Point}

-- what the point picks of the chooser of a table; none where there is no such table
abbrev pub picked_by : List Chooser → ℕ → Point → Option ℕ
picked_by choosers table p =
    option_and_then (λ chooser. picked chooser (in_range p)) (slice_get choosers table)

abbrev pub chosen : Choosers → ℕ → Point → Option ℕ
chosen choosers table p = picked_by choosers.tables.items table p

-- The choosers of some first tables, by the sets of these.
pub record AreFirst (kept : List TableSets) (choosers : List Chooser) (count : ℕ) : Type 0 where
  pub counted : length choosers ≡ count
  pub each : (table : ℕ) (c : Chooser) (k : TableSets) → slice_get choosers table ≡ Some c
      → slice_get kept table ≡ Some k → StandsFor c k.ctors.items k.sets.items
