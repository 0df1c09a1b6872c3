-- view: the sets of tables, as they are kept.
use Rattle.std.specs.Prelude.{◌≡◌, ℕ, List, Some, length, map, slice_get}
use Rattle.sl_conflict.specs.Rows.{Row, of_table}
use Rattle.sl_conflict.specs.declared.table_sets.TableSets.{TableSets}
use Rattle.sl_cube_sets.specs.Sets.{IsSettled}
use Rattle.sl_cube_sets.specs.Unions.{has_set}

-- The constructors and the sets of a table, side by side.
pub record IsTableOf (rs : List Row) (table : ℕ) (kept : TableSets) : Type 0 where
  pub ctors : kept.ctors.items ≡ map (λ r. r.number) (of_table table rs)
  pub sets : kept.sets.items ≡ map (λ r. r.set) (of_table table rs)

-- Each table, at its number.
pub record AreTablesOf (count : ℕ) (rs : List Row) (kept : List TableSets) : Type 0 where
  pub counted : length kept ≡ count
  pub each : (table : ℕ) (k : TableSets) → slice_get kept table ≡ Some k → IsTableOf rs table k

-- The table has a set for each constructor.
abbrev pub IsPaired : TableSets → Type 0
IsPaired kept = length kept.ctors.items ≡ length kept.sets.items

-- At each point that some of the table's sets has, one of them is the choice.
abbrev pub HasChoices : TableSets → Type 0
HasChoices kept = IsSettled has_set kept.sets.items
