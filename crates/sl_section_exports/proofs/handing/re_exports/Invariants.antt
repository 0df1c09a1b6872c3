use Rattle.std.proofs.Common.{◌≡◌, ◌++◌, drop}
use Rattle.sl_section_exports.specs.Exports.{re_exports}
use Rattle.sl_section_exports.specs.Views.{rows_of}
use Rattle.sl_section_exports.proofs.handing.re_exports.Given as goal

-- what is there and what the rows that are left give is all
abbrev pub invariant-rows : goal.invariant-rows
invariant-rows l = l.edges.items ++ re_exports l.default.0 (rows_of (drop l.index l.rows)) ≡ re_exports l.default.0 (rows_of l.rows)
