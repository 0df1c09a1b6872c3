use Rattle.std.proofs.Common.{◌≡◌, ◌++◌, drop}
use Rattle.sl_spec_rules.specs.Gathered.{gathered}
use Rattle.sl_section_exports.specs.Exports as spec
use Rattle.sl_section_exports.specs.Views.{rows_of}
use Rattle.sl_section_exports.proofs.handing.assigned_tables.Given as goal

-- what is there and what the rows that are left give is all
abbrev pub invariant-rows : goal.invariant-rows
invariant-rows l = l.tables.items ++ gathered spec.assigned_tables (rows_of (drop l.index l.rows)) ≡ gathered spec.assigned_tables (rows_of l.rows)
