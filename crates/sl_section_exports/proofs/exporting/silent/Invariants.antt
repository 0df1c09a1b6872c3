use Rattle.std.proofs.Common.{◌≡◌, ◌++◌, drop}
use Rattle.sl_spec_tables.specs.Views.{rows_of}
use Rattle.sl_section_exports.specs.Exports.{silent}
use Rattle.sl_section_exports.proofs.exporting.silent.Given as goal

-- what is there and what the rows that are left give is all
abbrev pub invariant-rows : goal.invariant-rows
invariant-rows l = l.tables.items ++ silent (rows_of (drop l.index l.rows)) ≡ silent (rows_of l.rows)
