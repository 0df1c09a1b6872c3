use Rattle.std.proofs.Common.{◌≡◌, ◌++◌, drop}
use Rattle.sl_section_exports.specs.Exports.{storages}
use Rattle.sl_section_exports.specs.Views.{rows_of}
use Rattle.sl_section_exports.proofs.handing.storages.Given as goal

-- what is there and what the rows that are left give is all
abbrev pub invariant-rows : goal.invariant-rows
invariant-rows l = l.tables.items ++ storages l.default.0 (rows_of (drop l.index l.rows)) ≡ storages l.default.0 (rows_of l.rows)
