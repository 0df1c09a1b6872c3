-- step: what is told of single tables, by their indexes.
use Rattle.std.specs.Prelude.{◌≡◌, ℕ, List, Some, slice_get}
use Rattle.sl_conflict.specs.Kept.{HasChoices}
use Rattle.sl_conflict.specs.declared.judging.ConflictError.{ConflictError}
use Rattle.sl_conflict.specs.declared.judging.ConflictError.TheVariants.{Ambiguous, NoMemory}
use Rattle.sl_conflict.specs.declared.table_sets.TableSets.{TableSets}
use Rattle.sl_cube.specs.declared.Point.{Point}
use Rattle.sl_cube_sets.specs.Reports.{IsReport}
use Rattle.sl_cube_sets.specs.Unions.{has_set}
use Rattle.sl_cube_sets.specs.declared.report.Apart.{Apart}
use Rattle.sl_cube_sets.specs.declared.report.Report.{Report}

-- The table isn't settled; the two constructors are those at the indexes that the report on its sets has.
pub record IsReportOn (kept : TableSets) (first second : ℕ) (both : Point) (apart : Apart) : Type 0 where
  pub report : Report
  pub right : IsReport has_set kept.sets.items report
  pub first_is : slice_get kept.ctors.items report.first ≡ Some first
  pub second_is : slice_get kept.ctors.items report.second ≡ Some second
  pub both_is : report.both ≡ both
  pub apart_is : report.apart ≡ apart

-- The error is a report on this table, or want of memory.
abbrev pub IsReportOf : TableSets → ℕ → ConflictError → Type 0
IsReportOf kept table (Ambiguous t first second both apart) = (t ≡ table) × IsReportOn kept first second both apart
IsReportOf kept table NoMemory = Unit {0}

-- There is such a table, and this is its first constructor.
pub record BeginsAt (tables : List TableSets) (table number : ℕ) (kept : TableSets) : Type 0 where
  pub kept_is : slice_get tables table ≡ Some kept
  pub first_is : slice_get kept.ctors.items 0 ≡ Some number

-- The table is settled, if this is its first constructor.
abbrev pub IsJudged : List TableSets → ℕ → ℕ → Type 0
IsJudged tables table number = (kept : TableSets) → BeginsAt tables table number kept → HasChoices kept

-- The error is a report on the table, whose first constructor this is, or want of memory.
abbrev pub IsReportAt : List TableSets → ℕ → ℕ → ConflictError → Type 0
IsReportAt tables table number (Ambiguous t first second both apart) =
    (kept : TableSets) × BeginsAt tables table number kept × (t ≡ table) × IsReportOn kept first second both apart
IsReportAt tables table number NoMemory = Unit {0}
