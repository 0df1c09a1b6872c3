use Rattle.std.proofs.Common.{◌≡◌, ◌++◌, drop}
use Rattle.sl_spec_tables.specs.Views.{rows_of}
use Rattle.sl_section_exports.specs.Exports.{exporting}
use Rattle.sl_section_exports.proofs.exporting.exporting.Given as goal

-- what is there and what the rows that are left give is all
abbrev pub invariant-rows : goal.invariant-rows
invariant-rows l = l.tables.items ++ exporting (rows_of (drop l.index l.rows)) ≡ exporting (rows_of l.rows)
