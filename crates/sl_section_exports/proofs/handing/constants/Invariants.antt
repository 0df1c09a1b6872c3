use Rattle.std.proofs.Common.{◌≡◌, ◌++◌, drop}
use Rattle.sl_section_exports.specs.Exports.{constants}
use Rattle.sl_section_exports.specs.Views.{rows_of}
use Rattle.sl_section_exports.proofs.handing.constants.Given as goal

-- what is there and what the rows that are left give is all
abbrev pub invariant-rows : goal.invariant-rows
invariant-rows l = l.tables.items ++ constants l.default.0 (rows_of (drop l.index l.rows)) ≡ constants l.default.0 (rows_of l.rows)
